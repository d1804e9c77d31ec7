-- The run of a component, in a table slot or in its package.
use Rattle.std.proofs.Common.{◌≡◌, inl, inr, ℕ, ◌+◌, ◌-◌, ◌*◌, ◌<◌, ◌≤◌, Bool, cond, Some, None, Ok, List, [], ◌++◌, length, take, drop, get_or, sym, ap, ap₂, subst, ◌∙◌, arith, slice_range, length-append, append_assoc}
use Rattle.std.specs.Prelude.{slice_get}
use Rattle.std.specs.List.{flat_map}
use Rattle.std.proofs.lemmas.Bool.{cases_Bool}
use Rattle.std.proofs.lemmas.List.{append-nil, take-append-le, drop-append-le, length-drop}
use Rattle.std.proofs.lemmas.Option.{slice_get-get_or}
use Rattle.std.proofs.Math.Seq.{drop-append-add}
use Rattle.flash_pages.specs.State.{State, IsState}
use Rattle.external_flash.specs.Areas.{bytes_from}
use Rattle.component_package.specs.declared.part.Export.{Export}
use Rattle.component_package.specs.declared.part.Header.{Header}
use Rattle.component_package.specs.declared.part.Reloc.{Reloc}
use Rattle.component_package.specs.packages.Component.{Component, header_bytes, export_bytes, reloc_bytes, spelling}
use Rattle.component_package.specs.packages.Grammar.{IsComponent}
use Rattle.component_package.specs.packages.Reading.{header_of, header_of_component, exports_at, relocs_at, total_of, export_fault, symbol_before, raw_export, export_of, check_export_of, reloc_fault, reloc_before, raw_reloc, raw_field, reloc_of, check_reloc_of}
use Rattle.component_package.proofs.Lists.{slice_get-list_of}
use Rattle.component_package.proofs.ReadAgain.{header_again, spelling_said, spelling_faultless}
use Rattle.component_package.proofs.Spelled.{faultless}
use Rattle.component_store.specs.Sets.{IsHeaderOf}
use Rattle.component_store.proofs.PartLemmas.{export_alone, reloc_alone, no_field}
use Rattle.kept_definitions.specs.Runs.{run_of, run_length}
use Rattle.kept_laws.proofs.Reading.{length-run}
use Rattle.kept_manifests.specs.Slots.{no_entry}
use Rattle.kept_store.specs.declared.set.StoredSet.{StoredSet}
use Rattle.kept_store.specs.Sets.{IsSet, IsComponentOf, no_header, header_at, is_fresh}
use Rattle.kept_store.specs.Open.{HasRooms}
use Rattle.kept_store.specs.Records.{slot_page, records_at}
use Rattle.kept_store.proofs.SlotBytes.{inbox_read, table_read}
use Rattle.kept_store.proofs.RestLemmas.{slot_low, entry_good}

-- how long the package is that a set's header gives
pub fits_slot : (set : StoredSet) (k : ℕ) → IsSet set → HasRooms set → k < set.slots.manifest.count → total_of (header_at set k) ≤ 9984
fits_slot set k is rooms lt =
    let few = is.manifest.count in
    let head = slice_get-get_or set.headers k no_header (omega (arith, rooms.headers)) in
    let entry = slice_get-get_or set.slots.manifest.entries k no_entry (omega (arith, rooms.entries)) in
    let fit : IsHeaderOf (get_or set.headers k no_header) (get_or set.slots.manifest.entries k no_entry) =
    is.headers k (get_or set.headers k no_header) (get_or set.slots.manifest.entries k no_entry) lt head entry in
    omega (arith, fit.total, (entry_good set.slots k is.manifest lt).most)

-- ---- bytes of a run

-- what stands behind code and data
tail_of : Component → List ℕ
tail_of c = flat_map export_bytes c.exports ++ flat_map reloc_bytes c.relocs

-- in a slot that begins with the package
pub run_in_spelling : (c : Component) (rest : List ℕ) (at n : ℕ) → 32 ≤ at → at + n ≤ run_length (header_of_component c)
    → take n (drop (exports_at (header_of_component c) + (at - 32)) (spelling c ++ rest)) ≡ take n (drop at (run_of c))
unfolding tail_of
run_in_spelling c rest at n behind within =
    let tail : List ℕ = tail_of c in
    let front : List ℕ = header_bytes c ++ (c.code ++ c.init) in
    let h : Header = header_of_component c in
    let o : ℕ = at - 32 in
    let long : length front ≡ exports_at h = omega (arith, length-append (header_bytes c) (c.code ++ c.init), length-append c.code c.init) in
    let size : length (run_of c) ≡ run_length h = length-run c in
    let whole : length (run_of c) ≡ 32 + length tail = length-append (header_bytes c) tail in
    let grouped : spelling c ++ rest ≡ front ++ (tail ++ rest) =
    ap (λ (x : List ℕ). (header_bytes c ++ x) ++ rest) (sym (append_assoc c.code c.init tail))
    ∙ ap (λ (x : List ℕ). x ++ rest) (sym (append_assoc (header_bytes c) (c.code ++ c.init) tail)) ∙ append_assoc front tail rest in
    let there : drop (exports_at h + o) (spelling c ++ rest) ≡ drop o tail ++ rest =
    ap (drop (exports_at h + o)) grouped ∙ ap (λ (k : ℕ). drop (k + o) (front ++ (tail ++ rest))) (sym long) ∙ drop-append-add front (tail ++ rest) o
    ∙ drop-append-le o tail rest (omega (arith, size, whole)) in
    let split : 32 + o ≡ at = omega arith in
    let own : drop at (run_of c) ≡ drop o tail = ap (λ (k : ℕ). drop k (run_of c)) (sym split) ∙ drop-append-add (header_bytes c) tail o in
    ap (take n) there ∙ take-append-le n (drop o tail) rest (omega (arith, length-drop o tail, size, whole)) ∙ ap (take n) (sym own)

-- in a slot that begins with the run
pub run_in_front : (c : Component) (rest : List ℕ) (at n : ℕ) → at + n ≤ run_length (header_of_component c) → take n (drop at (run_of c ++ rest)) ≡ take n (drop at (run_of c))
run_in_front c rest at n within =
    let size : length (run_of c) ≡ run_length (header_of_component c) = length-run c in
    ap (take n) (drop-append-le at (run_of c) rest (omega (arith, size))) ∙ take-append-le n (drop at (run_of c)) rest (omega (arith, length-drop at (run_of c), size))

-- bytes from a place on, as a range
pub range_of : (xs : List ℕ) (at n : ℕ) → take n (drop at xs) ≡ slice_range xs at (at + n)
range_of xs at n = let e : at + n - at ≡ n = omega arith in ap (λ (k : ℕ). take k (drop at xs)) (sym e)

-- where a set's component has them
pub run_there : (s : State) (sizes : IsState s) (set : StoredSet) (k : ℕ) (c : Component) → IsSet set → HasRooms set → k < set.slots.manifest.count → IsComponentOf s set k c
    → (at n : ℕ) → 32 ≤ at → at + n ≤ run_length (header_at set k)
    → take n (drop (records_at set k + (at - 32)) (bytes_from (slot_page set k) s)) ≡ slice_range (run_of c) at (at + n)
run_there s sizes set k c is rooms lt own at n behind within =
    let h : Header = header_at set k in
    let hc : Header = header_of_component c in
    let slot : ℕ = get_or set.slots.slots k 0 in
    let low : slot < 16 = slot_low set.slots k is.manifest lt in
    let fits = fits_slot set k is rooms lt in
    let len : run_length h ≡ run_length hc = ap run_length own.header in
    let goal : Bool → Type 0 = λ f. take n (drop (cond f (exports_at h) 32 + (at - 32)) (bytes_from (cond f (786 + 39 * slot) (1410 + 39 * slot)) s)) ≡ slice_range (run_of c) at (at + n) in
    elim (cases_Bool (is_fresh set k)) [
      | inl fresh ↦
          let b = own.readable.came fresh in
          let start : exports_at h ≡ exports_at hc = ap exports_at own.header in
          subst goal (sym fresh) (
          inbox_read s sizes slot (exports_at h + (at - 32)) n low (omega (arith, fits, within, behind))
          ∙ ap₂ (λ (m : ℕ) (l : List ℕ). take n (drop (m + (at - 32)) l)) start b.is
          ∙ run_in_spelling c b.rest at n behind (omega (arith, len, within)) ∙ range_of (run_of c) at n
          )
      | inr rests ↦
          let b = own.readable.run rests in
          let split : 32 + (at - 32) ≡ at = omega arith in
          subst goal (sym rests) (
          table_read s sizes slot (32 + (at - 32)) n low (omega (arith, fits, within, behind))
          ∙ ap₂ (λ (m : ℕ) (l : List ℕ). take n (drop m l)) split b.is
          ∙ run_in_front c b.rest at n (omega (arith, len, within)) ∙ range_of (run_of c) at n
          )
    ]

-- ---- records, by their bytes in the run

-- a run is behind code and data in the spelling
in_spelling : (c : Component) (at n : ℕ) → 32 ≤ at → at + n ≤ run_length (header_of_component c)
    → slice_range (spelling c) (exports_at (header_of_component c) + (at - 32)) (exports_at (header_of_component c) + (at - 32) + n) ≡ slice_range (run_of c) at (at + n)
in_spelling c at n behind within =
    sym (range_of (spelling c) (exports_at (header_of_component c) + (at - 32)) n)
    ∙ ap (λ (l : List ℕ). take n (drop (exports_at (header_of_component c) + (at - 32)) l)) (sym (append-nil (spelling c)))
    ∙ run_in_spelling c [] at n behind within ∙ range_of (run_of c) at n

-- export i is what its six bytes say
pub export_there : (c : Component) (i : ℕ) (raw : List ℕ) (e : Export) → IsComponent c → i < length c.exports → raw ≡ slice_range (run_of c) (32 + 6 * i) (32 + 6 * i + 6)
    → ((x : Export) → check_export_of (header_of_component c) None i raw ≡ Ok x → e ≡ x) → slice_get c.exports i ≡ Some e
export_there c i raw e w lt bytes says =
    let b : List ℕ = spelling c in
    let hc : Header = header_of_component c in
    let header : header_of b ≡ hc = header_again c in
    let count : (header_of b).exports ≡ length c.exports = ap (λ (h : Header). h.exports) header in
    let below : i < (header_of b).exports = omega arith in
    let at : exports_at hc + 6 * i ≡ exports_at hc + (32 + 6 * i - 32) = omega arith in
    let raw_is : raw_export b i ≡ raw =
    ap (λ (h : Header). slice_range b (exports_at h + 6 * i) (exports_at h + 6 * i + 6)) header ∙ ap (λ (k : ℕ). slice_range b k (k + 6)) at
    ∙ in_spelling c (32 + 6 * i) 6 (omega arith) (omega arith) ∙ sym bytes in
    let fine : export_fault b i ≡ None = (faultless b (spelling_faultless c w)).exports i below in
    let alone = export_alone (header_of b) (symbol_before b i) i (raw_export b i) fine in
    let said : check_export_of hc None i raw ≡ Ok (export_of (raw_export b i)) = ap₂ (λ (h : Header) (r : List ℕ). check_export_of h None i r) (sym header) (sym raw_is) ∙ alone in
    let result : e ≡ export_of (raw_export b i) = says (export_of (raw_export b i)) said in
    ap (λ (x : Component). slice_get x.exports i) (sym (spelling_said c w)) ∙ slice_get-list_of (λ j. export_of (raw_export b j)) (header_of b).exports i below ∙ ap (λ (x : Export). Some x) (sym result)

-- relocation i is what its eight bytes say
pub reloc_there : (c : Component) (i : ℕ) (raw : List ℕ) (r : Reloc) → IsComponent c → i < length c.relocs
    → raw ≡ slice_range (run_of c) (32 + 6 * length c.exports + 8 * i) (32 + 6 * length c.exports + 8 * i + 8)
    → ((x : Reloc) → check_reloc_of (header_of_component c) None i raw no_field ≡ Ok x → r ≡ x) → slice_get c.relocs i ≡ Some r
reloc_there c i raw r w lt bytes says =
    let b : List ℕ = spelling c in
    let hc : Header = header_of_component c in
    let header : header_of b ≡ hc = header_again c in
    let count : (header_of b).relocs ≡ length c.relocs = ap (λ (h : Header). h.relocs) header in
    let below : i < (header_of b).relocs = omega arith in
    let at : relocs_at hc + 8 * i ≡ exports_at hc + (32 + 6 * length c.exports + 8 * i - 32) = omega arith in
    let raw_is : raw_reloc b i ≡ raw =
    ap (λ (h : Header). slice_range b (relocs_at h + 8 * i) (relocs_at h + 8 * i + 8)) header ∙ ap (λ (k : ℕ). slice_range b k (k + 8)) at
    ∙ in_spelling c (32 + 6 * length c.exports + 8 * i) 8 (omega arith) (omega arith) ∙ sym bytes in
    let fine : reloc_fault b i ≡ None = (faultless b (spelling_faultless c w)).relocs i below in
    let alone = reloc_alone (header_of b) (reloc_before b i) i (raw_reloc b i) (raw_field b (reloc_of (raw_reloc b i))) fine in
    let said : check_reloc_of hc None i raw no_field ≡ Ok (reloc_of (raw_reloc b i)) = ap₂ (λ (h : Header) (x : List ℕ). check_reloc_of h None i x no_field) (sym header) (sym raw_is) ∙ alone in
    let result : r ≡ reloc_of (raw_reloc b i) = says (reloc_of (raw_reloc b i)) said in
    ap (λ (x : Component). slice_get x.relocs i) (sym (spelling_said c w)) ∙ slice_get-list_of (λ j. reloc_of (raw_reloc b j)) (header_of b).relocs i below ∙ ap (λ (x : Reloc). Some x) (sym result)
