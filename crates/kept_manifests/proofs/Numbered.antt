-- Lists that a function numbers, and the places of a manifest with slots.
use Rattle.std.proofs.Common.{◌≡◌, ℕ, zero, suc, ◌+◌, ◌<◌, Bool, false, List, [], ◌∷◌, ◌++◌, take, get_or, refl, sym, ap, ap₂, subst, ◌∙◌, arith, add-one}
use Rattle.std.proofs.lemmas.List.{get_or-take}
use Rattle.std.proofs.lemmas.List.FromFn.{get_or-map-range_with_len}
use Rattle.component_package.specs.declared.manifest.Entry.{Entry}
use Rattle.component_package.specs.packages.Reading.{list_of}
use Rattle.component_package.proofs.Lists.{list_of_more}
use Rattle.kept_definitions.specs.Stored.{Placed, placed_at}
use Rattle.kept_manifests.specs.declared.pages.SlotManifest.{SlotManifest}
use Rattle.kept_manifests.specs.Slots.{no_entry, place_of, stored_of}

-- two functions that number alike
pub list_of_same : {X : Type 0} (f g : ℕ → X) (n : ℕ) → ((k : ℕ) → k < n → f k ≡ g k) → list_of f n ≡ list_of g n
list_of_same f g zero same = refl
list_of_same {X} f g (suc n) same =
    list_of_more f n ∙ ap₂ (λ (xs : List X) (x : X). xs ++ x ∷ []) (list_of_same f g n (λ k lt. same k (omega arith))) (same n (omega arith)) ∙ sym (list_of_more g n)

-- one more
pub list_of_next : {X : Type 0} (f : ℕ → X) (n : ℕ) → list_of f n ++ f n ∷ [] ≡ list_of f (n + 1)
list_of_next f n = sym (subst (λ (k : ℕ). list_of f k ≡ list_of f n ++ f n ∷ []) (sym (add-one n)) (list_of_more f n))

-- an element of a list whose front a function numbers
pub front_number : {X : Type 0} (f : ℕ → X) (xs : List X) (n k : ℕ) (d : X) → take n xs ≡ list_of f n → k < n → get_or xs k d ≡ f k
front_number {X} f xs n k d front lt =
    sym (get_or-take n xs k d lt) ∙ ap (λ (l : List X). get_or l k d) front ∙ get_or-map-range_with_len f 0 n k k d lt (omega arith)

-- ---- places

abbrev pub entry_at : List ℕ → ℕ → Entry
entry_at b k = (placed_at b k).entry

abbrev pub slot_of : List ℕ → ℕ → ℕ
slot_of b k = (placed_at b k).slot

abbrev pub fresh_at : List ℕ → ℕ → Bool
fresh_at b k = (placed_at b k).fresh

abbrev pub the_placed : Entry → ℕ → Bool → Placed
the_placed e s f = record { entry = e; slot = s; fresh = f }

-- the entries that were read are the side's
pub placed_of : (b : List ℕ) (m : SlotManifest) → take m.manifest.count m.manifest.entries ≡ list_of (entry_at b) m.manifest.count → take m.manifest.count m.slots ≡ list_of (slot_of b) m.manifest.count
    → take m.manifest.count m.fresh ≡ list_of (fresh_at b) m.manifest.count → (stored_of m).placed ≡ list_of (placed_at b) m.manifest.count
placed_of b m entries slots fresh =
    list_of_same (place_of m) (placed_at b) m.manifest.count (λ k lt. same k lt)
  where
    same : (k : ℕ) → k < m.manifest.count → place_of m k ≡ placed_at b k
    same k lt =
        let e : get_or m.manifest.entries k no_entry ≡ entry_at b k = front_number (entry_at b) m.manifest.entries m.manifest.count k no_entry entries lt in
        let s : get_or m.slots k 0 ≡ slot_of b k = front_number (slot_of b) m.slots m.manifest.count k 0 slots lt in
        let f : get_or m.fresh k false ≡ fresh_at b k = front_number (fresh_at b) m.fresh m.manifest.count k false fresh lt in
        ap₂ (λ (x : Entry) (y : ℕ). the_placed x y (get_or m.fresh k false)) e s ∙ ap (λ (t : Bool). the_placed (entry_at b k) (slot_of b k) t) f
