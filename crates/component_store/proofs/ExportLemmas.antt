-- Exports of a component that the board holds, one after the other.
use Rattle.std.proofs.Common.{◌≡◌, ℕ, zero, suc, ◌+◌, ◌-◌, ◌<◌, List, [], ◌∷◌, ◌++◌, length, take, drop, Some, None, Ok, sym, ap, ap₂, subst, ◌∙◌, arith, get_or, slice_range}
use Rattle.std.specs.Prelude.{slice_get}
use Rattle.flash_pages.specs.State.{State}
use Rattle.component_package.specs.declared.part.Export.{Export}
use Rattle.component_package.specs.declared.part.Header.{Header}
use Rattle.component_package.specs.packages.Component.{Component}
use Rattle.component_package.specs.packages.Reading.{header_of, check_export_of, export_of, raw_export, export_fault, symbol_before}
use Rattle.component_package.proofs.Lists.{slice_get-list_of, length-list_of}
use Rattle.component_package.proofs.Spelled.{faultless}
use Rattle.component_store.specs.declared.set.StoredSet.{StoredSet}
use Rattle.component_store.specs.Reader.{held_package}
use Rattle.component_store.specs.Sets.{IsSet, HoldsSet, HasRooms, IsComponentOf, header_at}
use Rattle.component_store.proofs.PartLemmas.{IsHeld, held_component, export_alone}

-- export i is what its six bytes say
pub held_export : (s : State) (set : StoredSet) (k : ℕ) (comp : Component) → IsSet set → HasRooms set → k < set.slots.manifest.count → HoldsSet s set → IsComponentOf s set k comp
    → (i : ℕ) (raw : List ℕ) (e : Export) → i < (header_at set k).exports → raw ≡ raw_export (held_package s (get_or set.slots.slots k 0) (header_at set k)) i
    → ((x : Export) → check_export_of (header_at set k) None i raw ≡ Ok x → e ≡ x) → slice_get comp.exports i ≡ Some e
held_export s set k comp is rooms lt holds component i raw e asked bytes says =
    let h : Header = header_at set k in
    let slot : ℕ = get_or set.slots.slots k 0 in
    let held : IsHeld s slot h comp = held_component s set k comp is rooms lt holds component in
    let b : List ℕ = held_package s slot h in
    let count : h.exports ≡ (header_of b).exports = ap (λ (k : Header). k.exports) held.header in
    let below : i < (header_of b).exports = omega arith in
    let fine : export_fault b i ≡ None = (faultless b held.sound).exports i below in
    let alone = export_alone (header_of b) (symbol_before b i) i (raw_export b i) fine in
    let said = ap₂ (λ (k : Header) (r : List ℕ). check_export_of k None i r) held.header bytes ∙ alone in
    let result = says (export_of (raw_export b i)) said in
    ap (λ (x : Component). slice_get x.exports i) held.component ∙ slice_get-list_of (λ j. export_of (raw_export b j)) (header_of b).exports i below ∙ ap (λ (x : Export). Some x) (sym result)

-- there are as many as its header says
pub held_count : (s : State) (set : StoredSet) (k : ℕ) (comp : Component) → IsSet set → HasRooms set → k < set.slots.manifest.count → HoldsSet s set → IsComponentOf s set k comp
    → length comp.exports ≡ (header_at set k).exports
held_count s set k comp is rooms lt holds component =
    let h : Header = header_at set k in
    let slot : ℕ = get_or set.slots.slots k 0 in
    let held : IsHeld s slot h comp = held_component s set k comp is rooms lt holds component in
    let b : List ℕ = held_package s slot h in
    ap (λ (x : Component). length x.exports) held.component ∙ length-list_of (λ j. export_of (raw_export b j)) (header_of b).exports
    ∙ sym (ap (λ (k : Header). k.exports) held.header)

take_get : {X : Type 0} (xs : List X) (n : ℕ) (x : X) → slice_get xs n ≡ Some x → take (suc n) xs ≡ take n xs ++ x ∷ []
take_get [] n x at = absurd cc
take_get (y ∷ ys) zero x at = let e : y ≡ x = cc in ap (λ z. z ∷ []) e
take_get (y ∷ ys) (suc n) x at = ap (λ zs. y ∷ zs) (take_get ys n x at)

take_drop_get : {X : Type 0} (xs : List X) (i n : ℕ) (x : X) → slice_get xs (i + n) ≡ Some x → take (suc n) (drop i xs) ≡ take n (drop i xs) ++ x ∷ []
take_drop_get [] i n x at = absurd cc
take_drop_get (y ∷ ys) zero n x at = let e : 0 + n ≡ n = omega arith in take_get (y ∷ ys) n x (subst (λ m. slice_get (y ∷ ys) m ≡ Some x) e at)
take_drop_get (y ∷ ys) (suc i) n x at = let e : suc i + n ≡ suc (i + n) = omega arith in take_drop_get ys i n x (subst (λ m. slice_get (y ∷ ys) m ≡ Some x) e at)

-- one element more of a range
pub range_more : {X : Type 0} (xs : List X) (i n : ℕ) (x : X) → slice_get xs (i + n) ≡ Some x → slice_range xs i (i + (n + 1)) ≡ slice_range xs i (i + n) ++ x ∷ []
range_more xs i n x at =
    let more : i + (n + 1) - i ≡ suc n = omega arith in
    let same : i + n - i ≡ n = omega arith in
    ap (λ m. take m (drop i xs)) more ∙ take_drop_get xs i n x at ∙ ap (λ m. take m (drop i xs) ++ x ∷ []) (sym same)
