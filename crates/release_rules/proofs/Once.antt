-- Answers of the release machine.
use Rattle.std.proofs.Common.{◌≡◌, ◌⊎◌, ⊎_elim, inl, inr, ℕ, zero, suc, ◌+◌, Bool, List, [], ◌∷◌, map, Option, Some, None, refl, sym, ap, subst, ◌∙◌, arith}
use Rattle.std.specs.List.{All, find}
use Rattle.std.specs.Option.{option_map, option_and_then}
use Rattle.std.proofs.lemmas.Bool.{cond-true, cond-false, cases_Bool}
use Rattle.std.proofs.lemmas.Option.{same_Some}
use Rattle.component_package.specs.packages.Component.{Component}
use Rattle.component_package.specs.packages.Reading.{component_of}
use Rattle.component_package.specs.link.Link.{Cause, link_cause}
use Rattle.component_package.specs.link.Sets.{IsSet}
use Rattle.link_laws.proofs.Own.{image_exists, image_one}
use Rattle.release_rows.specs.declared.part.Numbered.{Numbered}
use Rattle.release_rows.specs.declared.row.ReleaseRow.{ReleaseRow}
use Rattle.release_rows.specs.declared.change.Change.{Change}
use Rattle.release_rows.specs.Tables.{Tables, is_release, stored_release}
use Rattle.release_rows.specs.Change.{IsPartList, changed}
use Rattle.release_rows.specs.Kept.{AreKept, IsKeptRelease, packages_of}
use Rattle.release_judging.specs.Faults.{number_of_cause, cause_values}
use Rattle.release_judging.specs.Images.{packages_of_release}
use Rattle.release_judging.proofs.Linkable.{linkable}
use Rattle.release_updates.proofs.Kept.{stored, stored_packages}
use Rattle.release_updates.specs.Updates.{update_bytes}
use Rattle.release_rules.specs.declared.decision.Decision.{Decision}
use Rattle.release_rules.specs.declared.decision.Decision.TheVariants.{Accepted, Repeated, KeyTaken, NoRow, Refused}
use Rattle.release_rules.specs.Deciding.{decided}
use Rattle.release_rules.specs.Motes.{mote_text}
use Rattle.release_rules.specs.Machine.{Asked, Posts, AsksMote, AsksUpdate, AsksImage, Answer, missing, refused, answered, found, IsImageOf, IsReleaseImage, IsAnswer}
use Rattle.release_rules.specs.Laws.{SomeAnswer, IsAccepted}

-- ---- one answer

image_of_one : (cause : Option Cause) (set : List Component) (t : Tables) (a b : Answer) → IsImageOf cause set t a → IsImageOf cause set t b → a ≡ b
image_of_one (Some cause) set t a b one other = one ∙ sym other
image_of_one None set t a b one other =
    one.2 ∙ ap (λ (image : List ℕ). found (Some image) t) (image_one set one.0 other.0 one.1 other.1) ∙ sym other.2

release_image_one : (o : Option (List (List ℕ))) (t : Tables) (a b : Answer) → IsReleaseImage o t a → IsReleaseImage o t b → a ≡ b
release_image_one None t a b one other = one ∙ sym other
release_image_one (Some packages) t a b one other = image_of_one (link_cause (map component_of packages)) (map component_of packages) t a b one other

pub answer_one : (t : Tables) (q : Asked) (a b : Answer) → IsAnswer t q a → IsAnswer t q b → a ≡ b
answer_one t (Posts key digest command) a b one other = one ∙ sym other
answer_one t (AsksMote mote) a b one other = one ∙ sym other
answer_one t (AsksUpdate mote have) a b one other = one ∙ sym other
answer_one t (AsksImage mote number) a b one other = release_image_one (packages_of_release t mote number) t a b one other

-- ---- some answer

found_is : {X : Type 0} (P : X → Type 0) (p : X → Bool) (rows : List X) (x : X) → All P rows → find p rows ≡ Some x → P x
found_is P p [] x all is = absurd cc
found_is P p (r ∷ rows) x all is = ⊎_elim
    (λ here. subst P (same_Some r x (sym (cond-true (p r) _ _ here) ∙ is)) (all zero r (omega arith)))
    (λ not_here. found_is P p rows x (λ k d lt. all (suc k) d (omega (arith, lt))) (sym (cond-false (p r) _ _ not_here) ∙ is))
    (cases_Bool (p r))

-- the parts of a kept release
kept_parts : (t : Tables) (mote : List ℕ) (number : ℕ) (parts : List Numbered) → AreKept t → stored_release t mote number ≡ Some parts → IsPartList parts
kept_parts t mote number parts kept is = by (find (is_release mote number) t.releases) refl
  where
    by : (o : Option ReleaseRow) → find (is_release mote number) t.releases ≡ o → IsPartList parts
    by None none = absurd (let no_row = sym (ap (option_map (λ (r : ReleaseRow). r.parts)) none) ∙ is in cc)
    by (Some r) some =
        let same : r.parts ≡ parts = same_Some r.parts parts (sym (ap (option_map (λ (x : ReleaseRow). x.parts)) some) ∙ is) in
        let row : IsKeptRelease t r.parts = found_is (λ (x : ReleaseRow). IsKeptRelease t x.parts) (is_release mote number) t.releases r kept.sets some in
        subst IsPartList same row.parts_are

-- the packages of a kept release are a set
kept_set : (t : Tables) (mote : List ℕ) (number : ℕ) (packages : List (List ℕ)) → AreKept t → packages_of_release t mote number ≡ Some packages → IsSet (map component_of packages)
kept_set t mote number packages kept is = by (stored_release t mote number) refl
  where
    by : (o : Option (List Numbered)) → stored_release t mote number ≡ o → IsSet (map component_of packages)
    by None none = absurd (let no_row = sym (ap (option_and_then (packages_of t)) none) ∙ is in cc)
    by (Some parts) some =
        let there : packages_of t parts ≡ Some packages = sym (ap (option_and_then (packages_of t)) some) ∙ is in
        let each = stored t parts packages there in
        (linkable parts packages (stored_packages t parts packages kept each.count each.each) (kept_parts t mote number parts kept some)).components

image_of_some : (cause : Option Cause) (set : List Component) (t : Tables) → link_cause set ≡ cause → IsSet set → (a : Answer) × IsImageOf cause set t a
image_of_some (Some cause) set t is sets = (refused (300 + number_of_cause cause) (cause_values cause) t, refl)
image_of_some None set t is sets = let image = image_exists set sets is in (found (Some image.image) t, (image.image, image.is, refl))

release_image_some : (t : Tables) (mote : List ℕ) (number : ℕ) → AreKept t → (o : Option (List (List ℕ))) → packages_of_release t mote number ≡ o → (a : Answer) × IsReleaseImage o t a
release_image_some t mote number kept None none = (missing t, refl)
release_image_some t mote number kept (Some packages) some =
    image_of_some (link_cause (map component_of packages)) (map component_of packages) t refl (kept_set t mote number packages kept some)

pub answer_exists : (t : Tables) (q : Asked) → AreKept t → SomeAnswer t q
answer_exists t (Posts key digest command) kept = record { answer = answered (decided t key digest command) t; is = refl }
answer_exists t (AsksMote mote) kept = record { answer = found (mote_text t mote) t; is = refl }
answer_exists t (AsksUpdate mote have) kept = record { answer = found (update_bytes t mote have) t; is = refl }
answer_exists t (AsksImage mote number) kept =
    let some = release_image_some t mote number kept (packages_of_release t mote number) refl in
    record { answer = some.0; is = some.1 }

-- ---- what changes tables

found_keeps : (o : Option (List ℕ)) (t : Tables) → (found o t).tables ≡ t
found_keeps None t = refl
found_keeps (Some body) t = refl

image_keeps : (cause : Option Cause) (set : List Component) (t : Tables) (a : Answer) → IsImageOf cause set t a → a.tables ≡ t
image_keeps (Some cause) set t a is = ap (λ (b : Answer). b.tables) is
image_keeps None set t a is = ap (λ (b : Answer). b.tables) is.2

release_image_keeps : (o : Option (List (List ℕ))) (t : Tables) (a : Answer) → IsReleaseImage o t a → a.tables ≡ t
release_image_keeps None t a is = ap (λ (b : Answer). b.tables) is
release_image_keeps (Some packages) t a is = image_keeps (link_cause (map component_of packages)) (map component_of packages) t a is

decision_changes : (d : Decision) (t : Tables) (a : Answer) → a ≡ answered d t → (a.tables ≡ t) ⊎ ((change : Change) × (d ≡ Accepted change) × (a.tables ≡ changed t change))
decision_changes (Accepted change) t a is = inr (change, refl, ap (λ (b : Answer). b.tables) is)
decision_changes (Repeated body) t a is = inl (ap (λ (b : Answer). b.tables) is)
decision_changes (KeyTaken digest) t a is = inl (ap (λ (b : Answer). b.tables) is)
decision_changes NoRow t a is = inl (ap (λ (b : Answer). b.tables) is)
decision_changes (Refused number values) t a is = inl (ap (λ (b : Answer). b.tables) is)

pub only_accepted : (t : Tables) (q : Asked) (a : Answer) → IsAnswer t q a → (a.tables ≡ t) ⊎ IsAccepted t q a
only_accepted t (Posts key digest command) a is = decision_changes (decided t key digest command) t a is
only_accepted t (AsksMote mote) a is = inl (ap (λ (b : Answer). b.tables) is ∙ found_keeps (mote_text t mote) t)
only_accepted t (AsksUpdate mote have) a is = inl (ap (λ (b : Answer). b.tables) is ∙ found_keeps (update_bytes t mote have) t)
only_accepted t (AsksImage mote number) a is = inl (release_image_keeps (packages_of_release t mote number) t a is)
