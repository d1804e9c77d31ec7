-- What gates and sides say of a mote.
use Rattle.std.proofs.Common.{◌≡◌, inl, inr, ℕ, true, cond, eqb, Option, Some, None, refl, sym, ap, ◌∙◌, arith}
use Rattle.std.proofs.lemmas.Bool.{both_ways, cases_eq}
use Rattle.std.proofs.lemmas.Bool.Decides.{nat_tests}
use Rattle.kept_definitions.specs.Stored.{StoredRelease}
use Rattle.component_package.specs.mote.Sides.{go_b}
use Rattle.kept_definitions.specs.Sides.{Parts, chosen_side, other_side}
use Rattle.kept_definitions.specs.Sound.{IsSound}
use Rattle.kept_definitions.specs.Headline.{has_incoming, is_linked, StandsForIncoming, StandsFor}
use Rattle.kept_definitions.specs.Machine.{Mote}
use Rattle.kept_laws.proofs.Stored.{release_one}
use Rattle.kept_laws.specs.Standing.{IsUnformatted, IsIncoming, SoundPartsTell, GatesStay}
use Rattle.kept_laws.proofs.Stands.{parts_stand_for_one, calm_where_linked, coming_where_linked, some_comes}

-- sound parts are formatted
is_formatted : (p : Parts) → IsSound p → IsUnformatted p → ⊥
is_formatted p sound (inl shut) = both_ways (p.gates 0) shut sound.formatted
is_formatted p sound (inr (inl both)) = both_ways (p.gates go_b) (sound.one_go both.0) both.1
is_formatted p sound (inr (inr none)) = let mote = parts_stand_for_one.some p sound in none mote.0.current.release mote.1.current.release

-- what is read as coming in is what comes in
incoming_is : (p : Parts) (a b : Option StoredRelease) → IsIncoming p a → StandsForIncoming p b → a ≡ b
incoming_is p None None read stands = refl
incoming_is p None (Some n) read stands = absurd (read stands.0 n stands.1)
incoming_is p (Some m) None read stands = absurd (both_ways (has_incoming p) stands read.0)
incoming_is p (Some m) (Some n) read stands = ap Some (release_one (other_side p) m n read.1 stands.1)

-- what is linked comes in
linked_comes : (p : Parts) (s : Mote) (o : Option StoredRelease) → IsSound p → StandsFor p s → IsIncoming p o → is_linked p ≡ true → (m : StoredRelease) × (o ≡ Some m)
linked_comes p s o sound stands read linked =
    let gates = calm_where_linked p linked in
    let comes = some_comes p s.incoming (coming_where_linked p sound gates.0 gates.1) stands.incoming in
    (comes.0, incoming_is p o s.incoming read stands.incoming ∙ comes.1)

pub sound_parts_tell : SoundPartsTell
sound_parts_tell = record {
  formatted = is_formatted;
  current = λ p s m stands stores. release_one (chosen_side p) m s.current.release stores stands.current.release;
  incoming = λ p s o sound stands read. incoming_is p o s.incoming read stands.incoming;
  linked = linked_comes;
}

pub gates_stay : GatesStay
gates_stay p gate = λ i. record p { gates = λ g. each g i }
  where
    each : (g : ℕ) → cond (eqb g gate) (p.gates gate) (p.gates g) ≡ p.gates g
    each g = elim (cases_eq g gate) [
      | inl same ↦ let there : p.gates gate ≡ p.gates g = ap p.gates (sym same) in grind (arith, nat_tests)
      | inr other ↦ grind (arith, nat_tests)
    ]
