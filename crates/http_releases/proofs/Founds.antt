-- What was found in the rows, as responses.
use Rattle.std.proofs.Common.{◌≡◌, ◌≢◌, ℕ, ◌+◌, List, map, Option, Some, None, refl, sym, ◌∙◌, subst}
use Rattle.component_package.specs.packages.Component.{Component}
use Rattle.component_package.specs.packages.Reading.{component_of}
use Rattle.component_package.specs.link.Link.{Cause}
use Rattle.full_linker.specs.declared.fault.LinkFault.{LinkFault}
use Rattle.full_linker.specs.declared.fault.LinkFault.TheVariants as faults
use Rattle.full_linker.specs.Faults.{cause_of}
use Rattle.http_replies.specs.declared.status.Status.TheVariants.{Success}
use Rattle.http_replies.specs.declared.status.MediaType.TheVariants.{OctetStream}
use Rattle.release_rows.specs.Tables.{Tables}
use Rattle.release_judging.specs.Faults.{number_of_cause, cause_values}
use Rattle.release_judging.specs.Images.{IsImageAnswer, IsCauseAlone}
use Rattle.release_judging.specs.declared.image.ImageAnswer.{ImageAnswer}
use Rattle.release_judging.specs.declared.image.ImageAnswer.TheVariants as images
use Rattle.release_rules.specs.Machine.{Answer, missing, refused, found, IsImageOf, IsReleaseImage}
use Rattle.http_releases.specs.Responses.{Response, json, in_json, in_bytes}

abbrev pub octets : List ℕ → Tables → Response
octets bytes t = record { status = Success; media = OctetStream; body = bytes; tables = t }

pub text_missing : (o wanted : Option (List ℕ)) (r : Response) (t : Tables) → o ≡ None → o ≡ wanted → r ≡ in_json (missing t) → r ≡ in_json (found wanted t)
text_missing o wanted r t none same is = subst (λ (w : Option (List ℕ)). r ≡ in_json (found w t)) (sym none ∙ same) is

pub text_found : (o wanted : Option (List ℕ)) (x : List ℕ) (r : Response) (t : Tables) → o ≡ Some x → o ≡ wanted → r ≡ json Success x t → r ≡ in_json (found wanted t)
text_found o wanted x r t some same is = subst (λ (w : Option (List ℕ)). r ≡ in_json (found w t)) (sym some ∙ same) is

pub bytes_missing : (o wanted : Option (List ℕ)) (r : Response) (t : Tables) → o ≡ None → o ≡ wanted → r ≡ in_json (missing t) → r ≡ in_bytes (found wanted t)
bytes_missing o wanted r t none same is = subst (λ (w : Option (List ℕ)). r ≡ in_bytes (found w t)) (sym none ∙ same) is

pub bytes_found : (o wanted : Option (List ℕ)) (x : List ℕ) (r : Response) (t : Tables) → o ≡ Some x → o ≡ wanted → r ≡ octets x t → r ≡ in_bytes (found wanted t)
bytes_found o wanted x r t some same is = subst (λ (w : Option (List ℕ)). r ≡ in_bytes (found w t)) (sym some ∙ same) is

-- a response that is the answer for an image
abbrev pub IsImageResponse : Option (List (List ℕ)) → Tables → Response → Type 0
IsImageResponse set t r = (a : Answer) × IsReleaseImage set t a × (r ≡ in_bytes a)

image_given : (set : Option (List (List ℕ))) (image : List ℕ) (r : Response) (t : Tables) → IsImageAnswer set (images.Image image) → r ≡ octets image t → IsImageResponse set t r
image_given None image r t answer is = absurd answer
image_given (Some packages) image r t answer is =
    let set : List Component = map component_of packages in
    let a : Answer = record { status = Success; body = image; tables = t } in
    (a, subst (λ (o : Option Cause). IsImageOf o set t a) (sym answer.possible) (image, answer, refl), is)

pub image_found : (set : Option (List (List ℕ))) (x : ImageAnswer) (image : List ℕ) (r : Response) (t : Tables) → x ≡ images.Image image → IsImageAnswer set x → r ≡ octets image t → IsImageResponse set t r
image_found set x image r t same answer is = image_given set image r t (subst (IsImageAnswer set) same answer) is

none_given : (set : Option (List (List ℕ))) (r : Response) (t : Tables) → IsImageAnswer set images.NoRow → r ≡ in_json (missing t) → IsImageResponse set t r
none_given None r t answer is = (missing t, refl, is)
none_given (Some packages) r t answer is = absurd answer

pub image_missing : (set : Option (List (List ℕ))) (x : ImageAnswer) (r : Response) (t : Tables) → x ≡ images.NoRow → IsImageAnswer set x → r ≡ in_json (missing t) → IsImageResponse set t r
image_missing set x r t same answer is = none_given set r t (subst (IsImageAnswer set) same answer) is

some_cause : (f : LinkFault) → f ≢ faults.Memory → (c : Cause) × (cause_of f ≡ Some c)
some_cause (faults.Flash t) other = (_, refl)
some_cause (faults.Ram t) other = (_, refl)
some_cause (faults.Symbols n) other = (_, refl)
some_cause (faults.Relocations n) other = (_, refl)
some_cause (faults.Duplicate s i j) other = (_, refl)
some_cause (faults.Undefined k r s) other = (_, refl)
some_cause (faults.Range k r x) other = (_, refl)
some_cause faults.Memory other = absurd (other refl)

cause_given : (set : Option (List (List ℕ))) (f : LinkFault) (r : Response) (t : Tables) → IsImageAnswer set (images.Cause f) → IsCauseAlone (images.Cause f)
    → ((c : Cause) → cause_of f ≡ Some c → r ≡ in_json (refused (300 + number_of_cause c) (cause_values c) t)) → IsImageResponse set t r
cause_given None f r t answer alone is = absurd answer
cause_given (Some packages) f r t answer alone is =
    let set : List Component = map component_of packages in
    let cause = some_cause f alone in
    let a : Answer = refused (300 + number_of_cause cause.0) (cause_values cause.0) t in
    (a, subst (λ (o : Option Cause). IsImageOf o set t a) (sym (answer ∙ cause.1)) refl, is cause.0 cause.1)

pub image_refused : (set : Option (List (List ℕ))) (x : ImageAnswer) (f : LinkFault) (r : Response) (t : Tables) → x ≡ images.Cause f → IsImageAnswer set x → IsCauseAlone x
    → ((c : Cause) → cause_of f ≡ Some c → r ≡ in_json (refused (300 + number_of_cause c) (cause_values c) t)) → IsImageResponse set t r
image_refused set x f r t same answer alone is = cause_given set f r t (subst (IsImageAnswer set) same answer) (subst IsCauseAlone same alone) is
