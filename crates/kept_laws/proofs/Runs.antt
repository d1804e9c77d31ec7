-- Where a package is taken back, its run is its component's.
use Rattle.std.proofs.Common.{◌≡◌, inl, inr, ℕ, zero, suc, ◌+◌, ◌-◌, ◌≤◌, Bool, true, false, List, [], ◌++◌, length, take, drop, get_or, refl, sym, ap, ap₂, subst, ◌∙◌, arith, slice_range, length-append, take-append-drop}
use Rattle.std.proofs.lemmas.Bool.{cases_lt}
use Rattle.std.specs.Prelude.{bit_and}
use Rattle.std.specs.List.{flat_map}
use Rattle.std.proofs.lemmas.List.{take_at, drop_at, take-take, get_or_past, length-take, length-drop, drop_all, get_or_append_left, append-nil}
use Rattle.component_package.specs.declared.part.Header.{Header}
use Rattle.component_package.specs.declared.part.Reloc.{Reloc}
use Rattle.component_package.specs.packages.Component.{Component, header_bytes, export_bytes, reloc_bytes, spelling}
use Rattle.component_package.specs.packages.Reading.{header_of, header_of_component, exports_at, total_of}
use Rattle.component_package.specs.link.Layout.{Room, code_base, load_base}
use Rattle.kept_definitions.specs.Runs.{run_of, run_length, run_in_table, run_in_package, relocs_in_run, bits_kept, part_from, package_from}
use Rattle.component_package.proofs.Lists.{length-list_of}
use Rattle.component_package.proofs.ReadAgain.{header_again, length-spelling}
use Rattle.component_package.proofs.Laws.{steps_find_the_fault}
use Rattle.kept_laws.proofs.Reading.{header_here}

-- the header in the first n bytes
header_in : (n : ℕ) (b : List ℕ) → 32 ≤ n → header_of (take n b) ≡ header_of b
header_in n b le =
    sym (steps_find_the_fault.header (take n b)) ∙ ap header_of (take-take 32 n b le) ∙ steps_find_the_fault.header b

-- a table's run is no longer than it says
pub run_short : (slot : List ℕ) → length (run_in_table slot) ≤ run_length (header_of (run_in_table slot))
run_short slot =
    let same = header_in (run_length (header_of slot)) slot (omega arith) in
    let size = length-take (run_length (header_of slot)) slot in
    subst (λ (h : Header). length (run_in_table slot) ≤ run_length h) (sym same) (omega (arith, size))

-- the run of a package in an inbox slot has the slot's header
packed_header : (slot : List ℕ) → header_of (run_in_package slot) ≡ header_of slot
packed_header slot =
    let h = header_of slot in
    let tail = slice_range slot (exports_at h) (total_of h) in
    elim (cases_lt (length slot) 32) [
      | inl small ↦
          let none : drop (exports_at h) slot ≡ [] = drop_all (exports_at h) slot (omega (arith, small)) in
          let gone : tail ≡ [] = ap (take (total_of h - exports_at h)) none ∙ take_none (total_of h - exports_at h) in
          ap (λ (x : List ℕ). header_of (take 32 slot ++ x)) gone ∙ ap header_of (append-nil (take 32 slot)) ∙ steps_find_the_fault.header slot
      | inr large ↦
          let n : length (take 32 slot) ≡ 32 = omega (arith, large, length-take 32 slot) in
          sym (steps_find_the_fault.header (take 32 slot ++ tail)) ∙ ap header_of (take_at (take 32 slot) tail 32 n) ∙ steps_find_the_fault.header slot
    ]
  where
    take_none : (n : ℕ) → take {A = ℕ} n [] ≡ []
    take_none zero = refl
    take_none (suc n) = refl

-- nor is it longer
pub packed_short : (slot : List ℕ) → length (run_in_package slot) ≤ run_length (header_of (run_in_package slot))
packed_short slot =
    let h = header_of slot in
    let tail = slice_range slot (exports_at h) (total_of h) in
    let whole = length-append (take 32 slot) tail in
    let front = length-take 32 slot in
    let behind = length-take (total_of h - exports_at h) (drop (exports_at h) slot) in
    subst (λ (x : Header). length (run_in_package slot) ≤ run_length x) (sym (packed_header slot)) (omega (arith, whole, front, behind))

-- a byte of the front is the whole's, or past the front's end 0
front_byte : (front back : List ℕ) (i : ℕ) → get_or front i 0 ≤ get_or (front ++ back) i 0
front_byte front back i =
    elim (cases_lt i (length front)) [
      | inl lt ↦ omega (arith, get_or_append_left front back 0 i lt)
      | inr past ↦ omega (arith, get_or_past front i 0 past)
    ]

-- so the numbers that a front says are at most the whole's
front_code : (front back : List ℕ) → (header_of front).code ≤ (header_of (front ++ back)).code
front_code front back = omega (arith, front_byte front back 8, front_byte front back 9)

front_init : (front back : List ℕ) → (header_of front).init ≤ (header_of (front ++ back)).init
front_init front back = omega (arith, front_byte front back 10, front_byte front back 11)

-- how long a part is at most
part_short : (image : List ℕ) (base size : ℕ) (init : Bool) (rs : List Reloc) → length (part_from image base size init rs) ≤ size
part_short image base size init rs =
    let n : base + size - base ≡ size = omega arith in
    omega (
      arith,
      length-list_of (λ at. bit_and (get_or (slice_range image base (base + size)) at 0) (bits_kept init rs at))
          (length (slice_range image base (base + size))),
      length-take (base + size - base) (drop base image),
      n,
    )

-- lists that are joined alike in two parts of the same length are the same
joined_front : (a b x y : List ℕ) → length a ≡ length x → a ++ b ≡ x ++ y → a ≡ x
joined_front a b x y same e = sym (take_at a b (length a) refl) ∙ ap (take (length a)) e ∙ take_at x y (length a) (sym same)

joined_back : (a b x y : List ℕ) → length a ≡ length x → a ++ b ≡ x ++ y → b ≡ y
joined_back a b x y same e = sym (drop_at a b (length a) refl) ∙ ap (drop (length a)) e ∙ drop_at x y (length a) (sym same)

-- a package put together of a run and two parts that are not longer than the run's header says
between : (run code init : List ℕ) (c : Component) → length run ≤ run_length (header_of run) → length code ≤ (header_of run).code → length init ≤ (header_of run).init
    → take 32 run ++ (code ++ (init ++ drop 32 run)) ≡ spelling c → run ≡ run_of c
between run code init c short code_short init_short e =
    let front = take 32 run in
    let back = code ++ (init ++ drop 32 run) in
    let b = front ++ back in
    let hc = header_of_component c in
    let whole : header_of b ≡ hc = ap header_of e ∙ header_again c in
    let said : header_of front ≡ header_of run = steps_find_the_fault.header run in
    let code_le : (header_of run).code ≤ hc.code = subst (λ (h : Header). (header_of run).code ≤ h.code) whole (subst (λ (h : Header). h.code ≤ (header_of b).code) said (front_code front back)) in
    let init_le : (header_of run).init ≤ hc.init = subst (λ (h : Header). (header_of run).init ≤ h.init) whole (subst (λ (h : Header). h.init ≤ (header_of b).init) said (front_init front back)) in
    let size : length b ≡ total_of hc = ap length e ∙ length-spelling c in
    let sum : length b ≡ length front + (length code + (length init + length (drop 32 run))) =
    omega (arith, length-append front back, length-append code (init ++ drop 32 run), length-append init (drop 32 run)) in
    let parts : length front + length (drop 32 run) ≡ length run = omega (arith, length-take 32 run, length-drop 32 run) in
    let long : 32 ≤ length run = omega (arith, size, sum, parts, code_le, init_le, code_short, init_short) in
    let front_long : length front ≡ 32 = omega (arith, length-take 32 run, long) in
    let heads : front ≡ header_bytes c = joined_front front back (header_bytes c) (c.code ++ (c.init ++ (flat_map export_bytes c.exports ++ flat_map reloc_bytes c.relocs))) front_long e in
    let backs : back ≡ c.code ++ (c.init ++ (flat_map export_bytes c.exports ++ flat_map reloc_bytes c.relocs)) =
    joined_back front back (header_bytes c) (c.code ++ (c.init ++ (flat_map export_bytes c.exports ++ flat_map reloc_bytes c.relocs))) front_long e in
    let header : header_of run ≡ hc = sym said ∙ ap header_of (heads ∙ sym (append-nil (header_bytes c))) ∙ header_here c [] in
    let h_code = ap (λ (h : Header). h.code) header in
    let h_init = ap (λ (h : Header). h.init) header in
    let h_run = ap run_length header in
    let code_long : length code ≡ length c.code = omega (arith, size, sum, parts, code_short, init_short, short, h_code, h_init, h_run) in
    let init_long : length init ≡ length c.init = omega (arith, size, sum, parts, code_short, init_short, short, h_code, h_init, h_run) in
    let behind = joined_back code (init ++ drop 32 run) c.code (c.init ++ (flat_map export_bytes c.exports ++ flat_map reloc_bytes c.relocs)) code_long backs in
    let tail = joined_back init (drop 32 run) c.init (flat_map export_bytes c.exports ++ flat_map reloc_bytes c.relocs) init_long behind in
    sym (take-append-drop 32 run) ∙ ap₂ (λ (x y : List ℕ). x ++ y) heads tail

-- so the run of a package taken back is its component's
pub run_of_package : (image : List ℕ) (rooms : List Room) (k : ℕ) (run : List ℕ) (c : Component) → length run ≤ run_length (header_of run)
    → package_from image rooms k run ≡ spelling c → run ≡ run_of c
run_of_package image rooms k run c short e =
    let h = header_of run in
    let rs = relocs_in_run run in
    between run (part_from image (code_base rooms k) h.code false rs) (part_from image (load_base rooms k) h.init true rs) c short
    (part_short image (code_base rooms k) h.code false rs) (part_short image (load_base rooms k) h.init true rs) e

-- a slot in which the bytes of its run stay has the same run
pub same_front : (before after : List ℕ) → take (run_length (header_of before)) after ≡ take (run_length (header_of before)) before → run_in_table after ≡ run_in_table before
same_front before after same =
    let n = run_length (header_of before) in
    let header : header_of after ≡ header_of before = sym (header_in n after (omega arith)) ∙ ap header_of same ∙ header_in n before (omega arith) in
    ap (λ (h : Header). take (run_length h) after) header ∙ same
