-- What the run of a component says.
use Rattle.std.proofs.Common.{◌≡◌, ℕ, ◌+◌, ◌-◌, ◌*◌, ◌/◌, ◌%◌, Bool, true, false, cond, eqb, Some, List, [], ◌++◌, length, take, refl, sym, ap, ◌∙◌, arith, slice_range, length-append, append_assoc}
use Rattle.std.specs.Prelude.{slice_get, nat_le, FitsSigned}
use Rattle.std.specs.Int.{w16, cast_unsigned}
use Rattle.std.proofs.lemmas.Int.{to_z-of_z}
use Rattle.std.specs.List.{flat_map}
use Rattle.std.proofs.lemmas.List.{append-nil, take_at, drop_at}
use Rattle.avr_reloc.proofs.Numbers.{kind_of-number}
use Rattle.component_package.specs.declared.part.Header.{Header}
use Rattle.component_package.specs.declared.part.Reloc.{Reloc}
use Rattle.component_package.specs.packages.Component.{Component, header_bytes, export_bytes, reloc_bytes, spelling}
use Rattle.component_package.specs.packages.Reading.{header_of, header_of_component, exports_at, total_of, reloc_of, list_of}
use Rattle.component_package.specs.packages.Grammar.{IsReloc, IsComponent}
use Rattle.component_package.specs.link.Layout.{room_of}
use Rattle.kept_definitions.specs.Runs.{run_of, run_length, run_in_table, run_in_package, relocs_in_run, room_of_run}
use Rattle.component_package.proofs.Lists.{entry_in, length-entries, list_of_entries, all_at}

-- ---- a relocation's bytes

-- a number is what its two bytes say
two : (n : ℕ) → n % 256 + 256 * (n / 256) ≡ n
two n = omega arith

-- the byte k says this part and this weakness
record SaysPlace (init weak : Bool) (k : ℕ) : Type 0 where
  pub part : eqb (k % 128) 1 ≡ init
  pub is_weak : nat_le 128 k ≡ weak

-- so does the one that a relocation spells
place_said : (init weak : Bool) → SaysPlace init weak (cond init 1 0 + cond weak 128 0)
place_said false false = record { part = refl; is_weak = refl }
place_said false true = record { part = refl; is_weak = refl }
place_said true false = record { part = refl; is_weak = refl }
place_said true true = record { part = refl; is_weak = refl }

-- the bytes of a relocation say it
reloc_said : (r : Reloc) → FitsSigned w16 r.addend → reloc_of (reloc_bytes r) ≡ r
reloc_said r fits =
    let p = place_said r.in_init r.weak in
    rw (kind_of-number r.kind, two r.offset, two r.target, two (cast_unsigned w16 r.addend), to_z-of_z w16 r.addend fits, p.part, p.is_weak) refl

-- ---- runs

-- the header at the front of a run, whatever follows
pub header_here : (c : Component) (rest : List ℕ) → header_of (header_bytes c ++ rest) ≡ header_of_component c
header_here c rest = rw (two c.component, two c.version, two (length c.code), two (length c.init), two c.bss, two (length c.exports), two (length c.relocs)) refl

-- how long a run is
pub length-run : (c : Component) → length (run_of c) ≡ run_length (header_of_component c)
length-run c =
    let exports = length-entries export_bytes 6 (λ e. refl) c.exports in
    let relocs = length-entries reloc_bytes 8 (λ r. refl) c.relocs in
    let tail = length-append (flat_map export_bytes c.exports) (flat_map reloc_bytes c.relocs) in
    let whole = length-append (header_bytes c) (flat_map export_bytes c.exports ++ flat_map reloc_bytes c.relocs) in
    omega (arith, exports, relocs, tail, whole)

-- the header of a run with more behind it
pub header_of_run : (c : Component) (rest : List ℕ) → header_of (run_of c ++ rest) ≡ header_of_component c
header_of_run c rest =
    ap header_of (append_assoc (header_bytes c) (flat_map export_bytes c.exports ++ flat_map reloc_bytes c.relocs) rest)
    ∙ header_here c ((flat_map export_bytes c.exports ++ flat_map reloc_bytes c.relocs) ++ rest)

-- a run alone
pub header_alone : (c : Component) → header_of (run_of c) ≡ header_of_component c
header_alone c = header_here c (flat_map export_bytes c.exports ++ flat_map reloc_bytes c.relocs)

-- a table slot that begins with a run has it
pub run_there : (c : Component) (rest : List ℕ) → run_in_table (run_of c ++ rest) ≡ run_of c
run_there c rest =
    ap (λ (h : Header). take (run_length h) (run_of c ++ rest)) (header_of_run c rest)
    ∙ take_at (run_of c) rest (run_length (header_of_component c)) (length-run c)

-- so has an inbox slot that begins with a package
pub run_packed : (c : Component) (rest : List ℕ) → run_in_package (spelling c ++ rest) ≡ run_of c
run_packed c rest =
    let exports = flat_map export_bytes c.exports in
    let relocs = flat_map reloc_bytes c.relocs in
    let tail = exports ++ relocs in
    let front = header_bytes c ++ (c.code ++ c.init) in
    let whole : spelling c ++ rest ≡ header_bytes c ++ ((c.code ++ (c.init ++ tail)) ++ rest) = append_assoc (header_bytes c) (c.code ++ (c.init ++ tail)) rest in
    let grouped : spelling c ++ rest ≡ front ++ (tail ++ rest) =
    ap (λ (x : List ℕ). (header_bytes c ++ x) ++ rest) (sym (append_assoc c.code c.init tail))
    ∙ ap (λ (x : List ℕ). x ++ rest) (sym (append_assoc (header_bytes c) (c.code ++ c.init) tail)) ∙ append_assoc front tail rest in
    let h : header_of (spelling c ++ rest) ≡ header_of_component c = ap header_of whole ∙ header_here c ((c.code ++ (c.init ++ tail)) ++ rest) in
    let n : length front ≡ exports_at (header_of_component c) = omega (arith, length-append (header_bytes c) (c.code ++ c.init), length-append c.code c.init) in
    let m : length tail ≡ total_of (header_of_component c) - exports_at (header_of_component c) =
    omega (arith, length-append exports relocs, length-entries export_bytes 6 (λ e. refl) c.exports, length-entries reloc_bytes 8 (λ r. refl) c.relocs) in
    ap (λ (k : Header). take 32 (spelling c ++ rest) ++ slice_range (spelling c ++ rest) (exports_at k) (total_of k)) h
    ∙ ap (λ (x : List ℕ). x ++ slice_range (spelling c ++ rest) (exports_at (header_of_component c)) (total_of (header_of_component c)))
    (ap (take 32) whole ∙ take_at (header_bytes c) ((c.code ++ (c.init ++ tail)) ++ rest) 32 refl)
    ∙ ap (λ (x : List ℕ). header_bytes c ++ x)
    (ap (λ (x : List ℕ). slice_range x (exports_at (header_of_component c)) (total_of (header_of_component c))) grouped
    ∙ ap (take (total_of (header_of_component c) - exports_at (header_of_component c))) (drop_at front (tail ++ rest) (exports_at (header_of_component c)) n)
    ∙ take_at tail rest (total_of (header_of_component c) - exports_at (header_of_component c)) m)

-- the bytes of a relocation in a run
raw_here : (c : Component) (i : ℕ) (r : Reloc) → slice_get c.relocs i ≡ Some r
    → slice_range (run_of c) (32 + 6 * length c.exports + 8 * i) (32 + 6 * length c.exports + 8 * i + 8) ≡ reloc_bytes r
raw_here c i r here =
    let exports = flat_map export_bytes c.exports in
    let relocs = flat_map reloc_bytes c.relocs in
    let front = header_bytes c ++ exports in
    let grouped : run_of c ≡ front ++ (relocs ++ []) =
    ap (λ (x : List ℕ). header_bytes c ++ (exports ++ x)) (sym (append-nil relocs)) ∙ sym (append_assoc (header_bytes c) exports (relocs ++ [])) in
    let n : length front ≡ 32 + 6 * length c.exports = omega (arith, length-append (header_bytes c) exports, length-entries export_bytes 6 (λ e. refl) c.exports) in
    ap (λ (x : List ℕ). slice_range x (32 + 6 * length c.exports + 8 * i) (32 + 6 * length c.exports + 8 * i + 8)) grouped
    ∙ ap (λ (k : ℕ). slice_range (front ++ (relocs ++ [])) (k + 8 * i) (k + 8 * i + 8)) (sym n)
    ∙ entry_in reloc_bytes 8 (λ r. refl) c.relocs front [] i r here

-- a run says the component's relocations
pub relocs_there : (c : Component) → IsComponent c → relocs_in_run (run_of c) ≡ c.relocs
relocs_there c w =
    ap (λ (h : Header). list_of (λ i. reloc_of (slice_range (run_of c) (32 + 6 * h.exports + 8 * i) (32 + 6 * h.exports + 8 * i + 8))) h.relocs) (header_alone c)
    ∙ list_of_entries (λ i. reloc_of (slice_range (run_of c) (32 + 6 * length c.exports + 8 * i) (32 + 6 * length c.exports + 8 * i + 8))) c.relocs
    (λ i r here. ap reloc_of (raw_here c i r here) ∙ reloc_said r (all_at (IsReloc c) c.relocs i r w.relocs here).addend)

-- and how much room it takes
pub room_there : (c : Component) → room_of_run (run_of c) ≡ room_of c
room_there c = ap (λ (h : Header). record { code = h.code; init = h.init; bss = h.bss }) (header_alone c)
