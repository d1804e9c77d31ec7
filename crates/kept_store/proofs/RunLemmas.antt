-- A run in two pieces of a slot.
use Rattle.std.proofs.Common.{◌≡◌, inl, inr, ℕ, ◌+◌, ◌-◌, ◌*◌, ◌<◌, ◌≤◌, Bool, cond, List, [], ◌++◌, length, take, drop, get_or, min, sym, ap, ap₂, subst, ◌∙◌, arith, slice_range, append_assoc}
use Rattle.std.specs.List.{flat_map}
use Rattle.std.proofs.lemmas.Bool.{cases_Bool, cases_lt}
use Rattle.std.proofs.lemmas.List.{drop_all, take_at, take-take, drop-take, drop-drop, length-drop, length-take-le, drop-append-le, take-append-le, take-append-drop, append-nil}
use Rattle.std.proofs.Math.Seq.{take-append-add, drop-append-add}
use Rattle.std.proofs.lemmas.List.Elements.{All-drop}
use Rattle.flash_pages.specs.State.{State, IsState}
use Rattle.external_flash.specs.Areas.{bytes_from}
use Rattle.component_package.specs.declared.part.Header.{Header}
use Rattle.component_package.specs.packages.Component.{Component, header_bytes, export_bytes, reloc_bytes, spelling}
use Rattle.component_package.specs.packages.Reading.{header_of, header_of_component, exports_at, total_of}
use Rattle.component_package.proofs.StoredLemmas.{length-joined}
use Rattle.kept_definitions.specs.Runs.{run_of, run_length, run_in_package}
use Rattle.kept_definitions.specs.Kept.{inbox_of}
use Rattle.kept_laws.proofs.Reading.{header_here, run_packed}
use Rattle.kept_store.specs.declared.set.StoredSet.{StoredSet}
use Rattle.kept_store.specs.Sets.{IsSet, IsComponentOf, header_at, is_fresh}
use Rattle.kept_store.specs.Open.{HasRooms}
use Rattle.kept_store.specs.Records.{slot_page, records_at}
use Rattle.kept_store.proofs.SlotBytes.{inbox_read, table_read}
use Rattle.kept_store.proofs.RestLemmas.{slot_low}
use Rattle.kept_store.proofs.RecordLemmas.{fits_slot, run_in_front, range_of}

-- ---- two reads that fill a buffer

-- what stands in a buffer after its two parts are filled
pub both_filled : (h : ℕ) (a b x : List ℕ) → length a ≡ h → take h (a ++ drop h x) ++ (b ++ drop (length (a ++ drop h x) - h) (drop h (a ++ drop h x))) ≡ a ++ b
both_filled h a b x len =
    let whole : List ℕ = a ++ drop h x in
    let none : drop (length whole - h) (drop h whole) ≡ [] = drop_all (length whole - h) (drop h whole) (omega (arith, length-drop h whole)) in
    ap (λ (l : List ℕ). l ++ (b ++ drop (length whole - h) (drop h whole))) (take_at a (drop h x) h len)
    ∙ ap (λ (l : List ℕ). a ++ l) (ap (λ (l : List ℕ). b ++ l) none ∙ append-nil b)

-- the bytes of a board from a page on are more than a header
header_room : (s : State) → IsState s → (first : ℕ) → first < 2048 → 32 ≤ length (bytes_from first s)
header_room s is first low =
    let pages : List (List ℕ) = drop first s.ext in
    let count : length pages ≡ 2048 - first = length-drop first s.ext ∙ omega (arith, is.ext) in
    let all = All-drop (λ (p : List ℕ). length p ≡ 256) first s.ext (λ k d lt. (is.ext_pages k d lt).0) in
    omega (arith, length-joined pages all, count)

module _ (s : State) (is : IsState s) (first records : ℕ) (low : first < 2048) where
  x : List ℕ
  x = bytes_from first s

  -- from the records on
  pub pieces_behind : (from n : ℕ) → 32 ≤ from → take n (drop (records + (from - 32)) (bytes_from first s)) ≡ take n (drop from (take 32 (bytes_from first s) ++ drop records (bytes_from first s)))
  unfolding x
  pieces_behind from n le =
      let front : length (take 32 x) ≡ 32 = length-take-le 32 x (header_room s is first low) in
      let split : length (take 32 x) + (from - 32) ≡ from = omega arith in
      ap (take n) (sym (drop-drop (from - 32) records x) ∙ sym (drop-append-add (take 32 x) (drop records x) (from - 32)) ∙ ap (λ (k : ℕ). drop k (take 32 x ++ drop records x)) split)

  -- from a byte of the header on: so many bytes of it, and then of the records
  pub pieces_both : (from n h : ℕ) → from < 32 → h ≡ min (32 - from) n → take h (drop from (bytes_from first s)) ++ take (n - h) (drop records (bytes_from first s))
      ≡ take n (drop from (take 32 (bytes_from first s) ++ drop records (bytes_from first s)))
  unfolding x
  pieces_both from n h lt is_h =
      let front : length (take 32 x) ≡ 32 = length-take-le 32 x (header_room s is first low) in
      let room = header_room s is first low in
      let head : List ℕ = take (32 - from) (drop from x) in
      let back : List ℕ = drop records x in
      let whole : from + (32 - from) ≡ 32 = omega arith in
      let there : drop from (take 32 x ++ back) ≡ head ++ back =
      drop-append-le from (take 32 x) back (omega arith) ∙ ap (λ (k : ℕ). drop from (take k x) ++ back) (sym whole) ∙ ap (λ (l : List ℕ). l ++ back) (drop-take from (32 - from) x) in
      let long : length head ≡ 32 - from = length-take-le (32 - from) (drop from x) (omega (arith, length-drop from x)) in
      sym (ap (take n) there ∙ elim (cases_lt n (32 - from)) [
        | inl few ↦
            let all : h ≡ n = omega arith in
            let none : n - h ≡ 0 = omega arith in
            take-append-le n head back (omega arith) ∙ take-take n (32 - from) (drop from x) (omega arith) ∙ ap (λ (k : ℕ). take k (drop from x)) (sym all)
            ∙ sym (append-nil (take h (drop from x))) ∙ ap (λ (k : ℕ). take h (drop from x) ++ take k back) (sym none)
        | inr many ↦
            let all : h ≡ 32 - from = omega arith in
            let sum : length head + (n - h) ≡ n = omega (arith, long) in
            ap (λ (k : ℕ). take k (head ++ back)) (sym sum) ∙ take-append-add head back (n - h) ∙ ap (λ (k : ℕ). take k (drop from x) ++ take (n - h) back) (sym all)
      ])

-- ---- a run out of a package

-- bytes that lie in the front of a list
front_window : (xs : List ℕ) (size from n : ℕ) → from + n ≤ size → take n (drop from (take size xs)) ≡ take n (drop from xs)
front_window xs size from n le =
    let split : from + (size - from) ≡ size = omega arith in
    ap (λ (k : ℕ). take n (drop from (take k xs))) (sym split) ∙ ap (take n) (drop-take from (size - from) xs) ∙ take-take n (size - from) (drop from xs) (omega arith)

-- an inbox slot
slot_of : State → ℕ → List ℕ
slot_of s slot = get_or (inbox_of s.ext) slot []

-- bytes of the run of the package in an inbox slot
pub packed_there : (s : State) → IsState s → (slot : ℕ) (h : Header) → slot < 16 → h ≡ header_of (get_or (inbox_of s.ext) slot []) → total_of h ≤ 9984 → (from n : ℕ) → from + n ≤ run_length h
    → take n (drop from (take 32 (bytes_from (786 + 39 * slot) s) ++ drop (exports_at h) (bytes_from (786 + 39 * slot) s))) ≡ take n (drop from (run_in_package (get_or (inbox_of s.ext) slot [])))
unfolding slot_of
packed_there s is slot h low header fits from n within =
    let x : List ℕ = bytes_from (786 + 39 * slot) s in
    let b : List ℕ = slot_of s slot in
    let size : ℕ = run_length h in
    let back : ℕ = total_of h - exports_at h in
    let front : length (take 32 x) ≡ 32 = length-take-le 32 x (header_room s is (786 + 39 * slot) (omega arith)) in
    let sum : length (take 32 x) + back ≡ size = omega arith in
    let whole : take size (take 32 x ++ drop (exports_at h) x) ≡ run_in_package b =
    ap (λ (k : ℕ). take k (take 32 x ++ drop (exports_at h) x)) (sym sum) ∙ take-append-add (take 32 x) (drop (exports_at h) x) back
    ∙ ap₂ (λ (u v : List ℕ). u ++ v) (inbox_read s is slot 0 32 low (omega arith)) (inbox_read s is slot (exports_at h) back low (omega arith))
    ∙ ap (λ (k : Header). take 32 b ++ slice_range b (exports_at k) (total_of k)) header in
    sym (front_window (take 32 x ++ drop (exports_at h) x) size from n within) ∙ ap (λ (l : List ℕ). take n (drop from l)) whole

-- ---- the run of a set's component

-- the header of a package with more behind it
header_packed : (c : Component) (rest : List ℕ) → header_of (spelling c ++ rest) ≡ header_of_component c
header_packed c rest =
    let body : List ℕ = c.code ++ (c.init ++ (flat_map export_bytes c.exports ++ flat_map reloc_bytes c.relocs)) in
    ap header_of (append_assoc (header_bytes c) body rest) ∙ header_here c (body ++ rest)

pub table_there : (s : State) (sizes : IsState s) (set : StoredSet) (k : ℕ) (c : Component) → IsSet set → HasRooms set → k < set.slots.manifest.count → IsComponentOf s set k c
    → (from n : ℕ) → from + n ≤ run_length (header_at set k)
    → take n (drop from (take 32 (bytes_from (slot_page set k) s) ++ drop (records_at set k) (bytes_from (slot_page set k) s))) ≡ slice_range (run_of c) from (from + n)
table_there s sizes set k c is rooms lt own from n within =
    let h : Header = header_at set k in
    let slot : ℕ = get_or set.slots.slots k 0 in
    let low : slot < 16 = slot_low set.slots k is.manifest lt in
    let fits = fits_slot set k is rooms lt in
    let goal : Bool → Type 0 = λ f. take n (drop from (take 32 (bytes_from (cond f (786 + 39 * slot) (1410 + 39 * slot)) s)
    ++ drop (cond f (exports_at h) 32) (bytes_from (cond f (786 + 39 * slot) (1410 + 39 * slot)) s)))
    ≡ slice_range (run_of c) from (from + n) in
    elim (cases_Bool (is_fresh set k)) [
      | inl fresh ↦
          let b = own.readable.came fresh in
          let header : h ≡ header_of (get_or (inbox_of s.ext) slot []) = own.header ∙ sym (ap header_of b.is ∙ header_packed c b.rest) in
          subst goal (sym fresh) (
          packed_there s sizes slot h low header fits from n within
          ∙ ap (λ (l : List ℕ). take n (drop from l)) (ap run_in_package b.is ∙ run_packed c b.rest) ∙ range_of (run_of c) from n
          )
      | inr rests ↦
          let b = own.readable.run rests in
          let len : run_length h ≡ run_length (header_of_component c) = ap run_length own.header in
          subst goal (sym rests) (
          ap (λ (l : List ℕ). take n (drop from l)) (take-append-drop 32 (bytes_from (1410 + 39 * slot) s))
          ∙ table_read s sizes slot from n low (omega (arith, fits, within))
          ∙ ap (λ (l : List ℕ). take n (drop from l)) b.is
          ∙ run_in_front c b.rest from n (omega (arith, len, within)) ∙ range_of (run_of c) from n
          )
    ]
