-- Sums over sizes and over the rooms that they say.
use Rattle.std.proofs.Common.{◌≡◌, ℕ, ◌+◌, ◌<◌, List, [], ◌∷◌, refl, sym, ap, ◌∙◌, arith, length, take, map}
use Rattle.std.specs.List.{sum_by}
use Rattle.std.proofs.lemmas.List.{length-map, take-map}
use Rattle.std.proofs.lemmas.List.Sums.{sum_by-cons}
use Rattle.component_package.specs.link.Layout.{Room}
use Rattle.layout_plan.specs.declared.plan.Sizes.{Sizes}
use Rattle.layout_plan.specs.Plan.{room, rooms, Begins}

pub sum_by-map : {X Y : Type 0} (f : Y → ℕ) (h : X → Y) (xs : List X) → sum_by f (map h xs) ≡ sum_by (λ x. f (h x)) xs
sum_by-map f h [] = refl
sum_by-map f h (x ∷ xs) = sum_by-cons f (h x) (map h xs) ∙ ap (λ (s : ℕ). f (h x) + s) (sum_by-map f h xs) ∙ sym (sum_by-cons (λ x. f (h x)) x xs)

-- the sum before i
pub before : (f : Room → ℕ) (sizes : List Sizes) (i : ℕ) → sum_by f (take i (rooms sizes)) ≡ sum_by (λ s. f (room s)) (take i sizes)
before f sizes i = ap (sum_by f) (take-map room i sizes) ∙ sum_by-map f room (take i sizes)

pub bases_of_rooms : (f : Room → ℕ) (xs : List ℕ) (start : ℕ) (sizes : List Sizes) → Begins xs (length sizes) (λ i. start + sum_by (λ s. f (room s)) (take i sizes))
    → Begins xs (length (rooms sizes)) (λ i. start + sum_by f (take i (rooms sizes)))
bases_of_rooms f xs start sizes h i lt =
    let inside : i < length sizes = omega (arith, length-map sizes room) in
    h i inside ∙ ap (λ (s : ℕ). start + s) (sym (before f sizes i))
