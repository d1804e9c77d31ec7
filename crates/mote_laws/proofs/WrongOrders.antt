-- What wrong orders would leave: each of these is refused.
use Rattle.std.proofs.Common.{◌≡◌, ◌≢◌, ⊎_elim, ℕ, zero, suc, ◌<◌, true, false, List, [], ◌∷◌, length, map, set, take, get_or, replicate, refl, ap, ◌∙◌, subst, arith}
use Rattle.std.proofs.lemmas.Bool.{cases_lt}
use Rattle.std.proofs.lemmas.List.{get_or-set_same, get_or_past, length-set}
use Rattle.component_package.specs.declared.manifest.Entry.{Entry}
use Rattle.component_package.specs.packages.Manifest.{Placed, StoredRelease}
use Rattle.component_package.specs.mote.Store.{package_in, HoldsPackage, slots_for}
use Rattle.component_package.specs.mote.Sides.{Parts, man, sym as sym_gate, rel, img, go_a, go_b, sel, chosen_side, other_side, is_pending}
use Rattle.component_package.specs.mote.Sound.{IsSound, IsNext}
use Rattle.mote_laws.specs.Steps.{with_gate, with_other_side}
use Rattle.mote_laws.specs.Runs.{ReleasesRise}

-- the Go gate closed before Sel is brought over: the former side is chosen again, over the new one's program flash
early_end : (p : Parts) → p.gates go_a ≡ false → p.gates go_b ≡ true → p.gates sel ≡ false → (chosen_side p ≡ p.side_b) × (chosen_side (with_gate go_b false p) ≡ p.side_a)
early_end p no_a b no_sel = (grind arith, grind arith)

-- Sel brought over before the Go gate is open: the other side is chosen with no image
early_selection : (p : Parts) → p.gates go_a ≡ false → p.gates go_b ≡ false → p.gates sel ≡ false → chosen_side (with_gate sel true p) ≡ p.side_b
early_selection p no_a no_b no_sel = grind arith

-- Man closed while Sym is open
man_under_sym : (p : Parts) → is_pending p ≡ false → p.gates sym_gate ≡ true → IsSound (with_gate man false p) → ⊥
man_under_sym p calm stands sound = grind arith

-- Sym closed while Rel is open
sym_under_rel : (p : Parts) → is_pending p ≡ false → p.gates rel ≡ true → IsSound (with_gate sym_gate false p) → ⊥
sym_under_rel p calm stands sound = grind arith

-- Rel closed while Img is open
rel_under_img : (p : Parts) → is_pending p ≡ false → p.gates img ≡ true → IsSound (with_gate rel false p) → ⊥
rel_under_img p calm stands sound = grind arith

-- both Go gates open
two_goes : (p : Parts) → p.gates go_a ≡ true → p.gates go_b ≡ true → IsSound p → ⊥
two_goes p a b sound = grind arith

-- an empty side is next to none
none_next : (current : List ℕ) → IsNext current [] → ⊥
unfolding IsNext
none_next current (m, r, stores, release, above, next) = let e = next.bytes in cc

-- what Man vouches for
next_where_open : (p : Parts) → is_pending p ≡ false → p.gates man ≡ true → IsSound p → IsNext (chosen_side p) (other_side p)
next_where_open p calm stands sound = grind arith

-- the other side's pages spoilt while Man is open
spoilt_side : (p : Parts) → is_pending p ≡ false → p.gates man ≡ true → IsSound (with_other_side [] p) → ⊥
spoilt_side p calm stands sound = none_next (chosen_side p) (subst (IsNext (chosen_side p)) (other_is p) (subst (λ side. IsNext side (other_side (with_other_side [] p))) (chosen_is p) (next_where_open (with_other_side [] p) calm stands sound)))
  where
    chosen_is : (p : Parts) → chosen_side (with_other_side [] p) ≡ chosen_side p
    chosen_is p = grind arith

    other_is : (p : Parts) → other_side (with_other_side [] p) ≡ []
    other_is p = grind arith

-- a held component's slot written: the package that boots is gone
held_written : (store : List (List ℕ)) (p : Placed) → HoldsPackage (set store p.slot []) p → ⊥
held_written store p holds =
    let empty : get_or (set store p.slot []) p.slot [] ≡ [] = ⊎_elim (λ in_reach. get_or-set_same store p.slot [] [] in_reach) (λ past. get_or_past (set store p.slot []) p.slot [] (omega (arith, length-set store p.slot []))) (cases_lt p.slot (length store)) in
    let gone : package_in (set store p.slot []) p ≡ [] = ap (λ (b : List ℕ). take p.entry.length b) empty ∙ nothing p.entry.length in
    let spelled = holds.spelled.bytes in
    cc
  where
    nothing : (n : ℕ) → take {A = ℕ} n [] ≡ []
    nothing zero = refl
    nothing (suc n) = refl

-- ---- slots and commits, computed

-- an entry of 40 bytes
abbrev entry : ℕ → ℕ → Entry
entry component version = record { component = component; version = version; length = 40; digest = replicate 32 0 }

-- a release of one component, in slot 0
abbrev of_one : StoredRelease
of_one = record { number = 1; placed = record { entry = entry 1 1; slot = 0 } ∷ [] }

-- the slots of two others over it
abbrev slots_of_two : List ℕ
slots_of_two = map (λ p. p.slot) (slots_for of_one (record { number = 2; entries = entry 1 2 ∷ entry 2 1 ∷ [] })).placed

-- slots 1 and 2
two_new : slots_of_two ≡ 1 ∷ 2 ∷ []
two_new = refl

-- not the slot that the current release has
not_over_the_current : slots_of_two ≢ 0 ∷ 1 ∷ []
not_over_the_current same = cc

-- not one slot for both
not_in_one : slots_of_two ≢ 1 ∷ 1 ∷ []
not_in_one same = cc

-- a release that is committed again does not rise
committed_again : ReleasesRise 1 (record { release = of_one; set = [] } ∷ []) → ⊥
committed_again rises = let above : 1 < 1 = rises.0 in omega arith
