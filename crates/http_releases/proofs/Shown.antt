-- Replies and the responses that they are.
use Rattle.std.proofs.Common.{◌≡◌, ℕ, ℤ, List, Some, sym, ap, ◌∙◌, subst}
use Rattle.component_package.specs.link.Link.{Cause}
use Rattle.full_linker.specs.declared.fault.LinkFault.{LinkFault}
use Rattle.full_linker.specs.declared.fault.LinkFault.TheVariants as faults
use Rattle.full_linker.specs.Faults.{cause_of, Says}
use Rattle.http_replies.specs.declared.status.Status.{Status}
use Rattle.release_rows.specs.Tables.{Tables}
use Rattle.release_judging.specs.declared.judged.Judged.{Judged}
use Rattle.release_judging.specs.declared.judged.Judged.TheVariants.{Does, NoRow, Refused}
use Rattle.release_rules.specs.Machine.{refused}
use Rattle.http_releases.specs.Responses.{json, in_json}
use Rattle.http_releases.specs.Replies.{with_tables}
use Rattle.http_releases.specs.declared.reply.Reply.{Reply}

-- a reply with another spelling of its text
pub same_text : (reply : Reply) (status : Status) (b c : List ℕ) → ((t : Tables) → with_tables reply t ≡ json status b t) → b ≡ c → (t : Tables) → with_tables reply t ≡ json status c t
same_text reply status b c is same t = subst (λ (xs : List ℕ). with_tables reply t ≡ json status xs t) same (is t)

-- a fault says the cause that it names
pub says_cause : (f : LinkFault) (c : Cause) → cause_of f ≡ Some c → Says f (Some c)
says_cause (faults.Flash t) c e = sym e
says_cause (faults.Ram t) c e = sym e
says_cause (faults.Symbols n) c e = sym e
says_cause (faults.Relocations n) c e = sym e
says_cause (faults.Duplicate s i j) c e = sym e
says_cause (faults.Undefined k r s) c e = sym e
says_cause (faults.Range k r x) c e = sym e
says_cause faults.Memory c e = tt

abbrev pub number_of : Judged → ℕ
number_of (Does effect) = 0
number_of NoRow = 0
number_of (Refused number values) = number

abbrev pub values_of : List ℤ → Judged → List ℤ
values_of none (Does effect) = none
values_of none NoRow = none
values_of none (Refused number values) = values

-- the refusal with the same number and values
pub same_refusal : (reply : Reply) (n m : ℕ) (v w : List ℤ) (j : Judged) → ((t : Tables) → with_tables reply t ≡ in_json (refused n v t)) → j ≡ Refused n v → j ≡ Refused m w
    → (t : Tables) → with_tables reply t ≡ in_json (refused m w t)
same_refusal reply n m v w j is first second t =
    let same : Refused n v ≡ Refused m w = sym first ∙ second in
    subst (λ (k : ℕ). with_tables reply t ≡ in_json (refused k w t)) (ap number_of same)
    (subst (λ (x : List ℤ). with_tables reply t ≡ in_json (refused n x t)) (ap (values_of v) same) (is t))
