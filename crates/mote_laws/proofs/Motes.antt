-- The mote that parts stand for.
use Rattle.std.proofs.Common.{◌≡◌, ℕ, ◌<◌, Bool, true, false, cond, List, Option, Some, None, refl, sym, ap, ◌∙◌, arith}
use Rattle.std.proofs.lemmas.Bool.{both_ways}
use Rattle.component_package.specs.packages.Manifest.{StoredRelease, Stores}
use Rattle.component_package.specs.mote.Store.{slots_for}
use Rattle.component_package.specs.mote.Sides.{Parts, chosen_side, other_side, is_pending, man}
use Rattle.component_package.specs.mote.Sound.{IsSound, HasNoCause, IsNext}
use Rattle.component_package.specs.mote.Machine.{Mote}
use Rattle.component_package.specs.mote.Headline.{has_incoming, is_linked, StandsForIncoming, StandsFor}
use Rattle.component_package.proofs.ManifestLaws.{stored_release_is_one}
use Rattle.mote_laws.specs.Runs.{IsAbove, IsRising}
use Rattle.mote_laws.specs.Motes.{PartsStandForOne}

-- one release comes in at most
incoming_one : (p : Parts) (a b : Option StoredRelease) → StandsForIncoming p a → StandsForIncoming p b → a ≡ b
incoming_one p None None first second = refl
incoming_one p None (Some n) first second = absurd (both_ways (has_incoming p) first second.0)
incoming_one p (Some m) None first second = absurd (both_ways (has_incoming p) second first.0)
incoming_one p (Some m) (Some n) first second = ap Some (stored_release_is_one.release (other_side p) m n first.1 second.1)

-- one mote at most
stands_for_one : (p : Parts) (s t : Mote) → StandsFor p s → StandsFor p t → s ≡ t
stands_for_one p s t first second =
    let current = stored_release_is_one.release (chosen_side p) s.current t.current first.current second.current in
    let incoming = incoming_one p s.incoming t.incoming first.incoming second.incoming in
    let store = first.store ∙ sym second.store in
    let linked = first.linked ∙ sym second.linked in
    let standing = first.standing ∙ sym second.standing in
    λ i. record { current = current i; incoming = incoming i; store = store i; linked = linked i; standing = standing i }

-- what is chosen, and what comes in
chosen_release : (slots : List (List ℕ)) (side : List ℕ) → HasNoCause slots side → (m : StoredRelease) × Stores side m
unfolding HasNoCause
chosen_release slots side (m, stores, has, none) = (m, stores)

-- and that it is above the current one
next_release : (current side : List ℕ) → IsNext current side → (m n : StoredRelease) × Stores current m × Stores side n × (m.number < n.number)
unfolding IsNext
next_release current side (m, r, stores, release, above, next) = (m, slots_for m r, stores, next, above)

-- what comes in has Man open
pub man_open : (p : Parts) → has_incoming p ≡ true → (is_pending p ≡ false) × (p.gates man ≡ true)
man_open p has = at (is_pending p) refl has
  where
    at : (b : Bool) → is_pending p ≡ b → cond b false (p.gates man) ≡ true → (is_pending p ≡ false) × (p.gates man ≡ true)
    at true is h = absurd cc
    at false is h = (is, h)

-- and is next
pub comes_next : (p : Parts) → IsSound p → has_incoming p ≡ true → IsNext (chosen_side p) (other_side p)
comes_next p sound has = let gates = man_open p has in (sound.rest gates.0).man_open gates.1

-- what comes in, where something does
stands_for_incoming : (p : Parts) → IsSound p → (b : Bool) → has_incoming p ≡ b → (o : Option StoredRelease) × StandsForIncoming p o
stands_for_incoming p sound false is = (None, is)
stands_for_incoming p sound true is = let next = next_release (chosen_side p) (other_side p) (comes_next p sound is) in (Some next.1, (is, next.3))

-- a sound mote stands for one
stands_for_some : (p : Parts) → IsSound p → (s : Mote) × StandsFor p s
stands_for_some p sound =
    let current = chosen_release p.slots (chosen_side p) sound.chosen in
    let incoming = stands_for_incoming p sound (has_incoming p) refl in (
      record { current = current.0; incoming = incoming.0; store = p.slots; linked = is_linked p; standing = is_pending p },
      record { current = current.1; incoming = incoming.1; store = refl; linked = refl; standing = refl },
    )

-- and for one that rises
is_rising : (p : Parts) (s : Mote) → IsSound p → StandsFor p s → IsRising s
is_rising p s sound stands = at s.incoming stands.incoming
  where
    at : (o : Option StoredRelease) → StandsForIncoming p o → IsAbove s.current.number o
    at None none = tt
    at (Some m) (has, stores) =
        let next = next_release (chosen_side p) (other_side p) (comes_next p sound has) in
        let current : next.0.number ≡ s.current.number = ap (λ (n : StoredRelease). n.number) (stored_release_is_one.release (chosen_side p) next.0 s.current next.2 stands.current) in
        let incoming : next.1.number ≡ m.number = ap (λ (n : StoredRelease). n.number) (stored_release_is_one.release (other_side p) next.1 m next.3 stores) in
        let above : next.0.number < next.1.number = next.4 in
        omega arith

pub parts_stand_for_one : PartsStandForOne
parts_stand_for_one = record { one = stands_for_one; some = stands_for_some; rising = is_rising }
