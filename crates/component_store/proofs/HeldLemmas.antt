-- The package in a slot, read record by record.
use Rattle.std.proofs.Common.{◌≡◌, ℕ, ◌+◌, ◌-◌, ◌*◌, ◌<◌, ◌≤◌, Bool, cond, Option, Some, None, List, length, take, drop, refl, sym, ap, ap₂, ◌∙◌, arith, slice_range}
use Rattle.std.specs.Prelude.{All, not, nat_lt, IsTrue}
use Rattle.std.specs.Option.{option_or, option_map}
use Rattle.std.proofs.lemmas.Bool.{not-false, and_parts, eqb-true}
use Rattle.std.proofs.lemmas.List.{take-take, drop-take, length-take-le, length-drop}
use Rattle.std.proofs.lemmas.List.Elements.{All-take, All-drop}
use Rattle.flash_pages.specs.State.{State, IsState}
use Rattle.component_package.specs.declared.manifest.Entry.{Entry}
use Rattle.component_package.specs.declared.part.Header.{Header}
use Rattle.component_package.specs.declared.fault.PackageFault.{PackageFault}
use Rattle.component_package.specs.declared.fault.PackageFault.TheVariants.{Short, Magic, Reserved, Parity, Length}
use Rattle.component_package.specs.packages.Reading.{header_of, header_fault, has_magic, is_blank, has_even_lengths, has_its_length, total_of, exports_fault, reloc_fault, package_fault, first_fault}
use Rattle.component_package.specs.Laws.{export_step, reloc_step}
use Rattle.component_package.specs.mote.Store.{slot_at}
use Rattle.component_package.proofs.First.{passed, first_fault-same}
use Rattle.component_package.proofs.Laws.{steps_find_the_fault}
use Rattle.component_package.proofs.Steps.{reloc_step_is}
use Rattle.component_package.proofs.StoredLemmas.{length-joined}
use Rattle.component_store.specs.declared.set.StoreFault.{StoreFault}
use Rattle.component_store.specs.declared.set.StoreFault.TheVariants.{Package, Identity}
use Rattle.component_store.specs.Reader.{held_bytes}
use Rattle.component_store.specs.Packages.{is_of, package_answer, records_fault}

-- bytes of a slot that lie in its package
pub held_slice : (s : State) (slot size at w : ℕ) → at + w ≤ size → take w (drop at (slot_at s.ext slot)) ≡ slice_range (held_bytes s slot size) at (at + w)
held_slice s slot size at w within =
    let b : List ℕ = slot_at s.ext slot in
    let n : at + w - at ≡ w = omega arith in
    let split : size ≡ at + (size - at) = omega arith in
    sym (ap (λ (k : ℕ). take k (drop at (take size b))) n ∙ ap (λ (k : ℕ). take w (drop at (take k b))) split ∙ ap (take w) (drop-take at (size - at) b) ∙ take-take w (size - at) (drop at b) (omega arith))

-- a slot has 9,984 bytes
pub length-slot : (s : State) → IsState s → (slot : ℕ) → slot < 32 → length (slot_at s.ext slot) ≡ 9984
length-slot s is slot low =
    let first : ℕ = 786 + 39 * slot in
    let pages : List (List ℕ) = take 39 (drop first s.ext) in
    let count : length pages ≡ 39 = length-take-le 39 (drop first s.ext) (omega (arith, length-drop first s.ext, is.ext)) in
    let whole : All (λ p. length p ≡ 256) pages = All-take (λ (p : List ℕ). length p ≡ 256) 39 (drop first s.ext) (All-drop (λ (p : List ℕ). length p ≡ 256) first s.ext (λ k d lt. (is.ext_pages k d lt).0)) in
    length-joined pages whole ∙ omega (arith, count)

-- the first 32 bytes of a package
pub held_front : (s : State) (slot size : ℕ) → 32 ≤ size → held_bytes s slot 32 ≡ take 32 (held_bytes s slot size)
held_front s slot size long = sym (take-take 32 size (slot_at s.ext slot) long)

-- a header without a fault
pub record IsRight (h : Header) (n : ℕ) : Type 0 where
  pub even : IsTrue (has_even_lengths h)
  pub total : total_of h ≡ n

pub right_header : (raw : List ℕ) (n : ℕ) → header_fault raw n ≡ None → IsRight (header_of raw) n
right_header raw n e =
    let h = header_of raw in
    let short = passed (nat_lt n 32) Short _ e in
    let magic = passed (not (has_magic raw)) Magic _ short.1 in
    let reserved = passed (not (is_blank raw)) Reserved _ magic.1 in
    let parity = passed (not (has_even_lengths h)) Parity _ reserved.1 in
    let whole = passed (not (has_its_length h n)) Length _ parity.1 in
    let both = and_parts _ _ (not-false _ whole.0) in
    record { even = not-false _ parity.0; total = sym (eqb-true _ _ both.0) }

-- a package's first fault is its header's, or else one of its records'
pub package_parts : (b : List ℕ) → package_fault b ≡ option_or (header_fault (take 32 b) (length b)) (records_fault b)
package_parts b =
    let relocs = first_fault-same (reloc_step (header_of b) b) (reloc_fault b) (header_of b).relocs (λ i lt. reloc_step_is b i) in
    sym (steps_find_the_fault.fault b)
    ∙ ap (λ (h : Header). option_or (header_fault (take 32 b) (length b)) (option_or (first_fault (export_step h b) h.exports) (first_fault (reloc_step h b) h.relocs))) (steps_find_the_fault.header b)
    ∙ ap (λ (o : Option PackageFault). option_or (header_fault (take 32 b) (length b)) (option_or (exports_fault b) o)) relocs

-- what is answered of a package, part by part
pub answered : (e : Entry) (b : List ℕ) (header : Option PackageFault) → header_fault (take 32 b) (length b) ≡ header
    → package_answer e b ≡ option_or (option_map Package (option_or header (records_fault b))) (cond (is_of e (header_of b)) None (Some Identity))
answered e b header is = ap (λ (o : Option PackageFault). option_or (option_map Package o) (cond (is_of e (header_of b)) None (Some Identity))) (package_parts b ∙ ap (λ (o : Option PackageFault). option_or o (records_fault b)) is)

-- ---- a package that was checked part by part

no_package : (o : Option PackageFault) → option_map Package o ≡ None → o ≡ None
no_package None e = refl
no_package (Some f) e = absurd cc

first_part : (h r : Option PackageFault) (x : Option StoreFault) (f : StoreFault) → option_map Package h ≡ Some f → option_or (option_map Package (option_or h r)) x ≡ Some f
first_part None r x f e = absurd cc
first_part (Some g) r x f e = e

second_part : (r : Option PackageFault) (x : Option StoreFault) (f : StoreFault) → option_map Package r ≡ Some f → option_or (option_map Package r) x ≡ Some f
second_part None x f e = absurd cc
second_part (Some g) x f e = e

module _ (s : State) (is : IsState s) (e : Entry) (slot : ℕ) (low : slot < 32) (long : 32 ≤ e.length) (short : e.length ≤ 9984) where
  size : length (held_bytes s slot e.length) ≡ e.length
  size = length-take-le e.length (slot_at s.ext slot) (omega (arith, length-slot s is slot low))

  front : header_fault (take 32 (held_bytes s slot e.length)) (length (held_bytes s slot e.length)) ≡ header_fault (held_bytes s slot 32) e.length
  front = ap₂ header_fault (sym (held_front s slot e.length long)) size

  -- the header that was read is the package's
  pub header_read : (h : Header) → h ≡ header_of (held_bytes s slot 32) → h ≡ header_of (held_bytes s slot e.length)
  header_read h read = read ∙ ap header_of (held_front s slot e.length long) ∙ steps_find_the_fault.header (held_bytes s slot e.length)

  -- the header's fault
  pub header_refused : (f : StoreFault) → option_map Package (header_fault (held_bytes s slot 32) e.length) ≡ Some f → package_answer e (held_bytes s slot e.length) ≡ Some f
  header_refused f refused =
      answered e (held_bytes s slot e.length) (header_fault (held_bytes s slot 32) e.length) front
      ∙ first_part (header_fault (held_bytes s slot 32) e.length) (records_fault (held_bytes s slot e.length)) (cond (is_of e (header_of (held_bytes s slot e.length))) None (Some Identity)) f refused

  -- a header without a fault leaves what the records say
  behind : option_map Package (header_fault (held_bytes s slot 32) e.length) ≡ None
      → package_answer e (held_bytes s slot e.length) ≡ option_or (option_map Package (records_fault (held_bytes s slot e.length))) (cond (is_of e (header_of (held_bytes s slot e.length))) None (Some Identity))
  behind fine = answered e (held_bytes s slot e.length) None (front ∙ no_package (header_fault (held_bytes s slot 32) e.length) fine)

  -- a record's fault
  pub records_refused : (f : StoreFault) → option_map Package (header_fault (held_bytes s slot 32) e.length) ≡ None
      → option_map Package (records_fault (held_bytes s slot e.length)) ≡ Some f → package_answer e (held_bytes s slot e.length) ≡ Some f
  records_refused f fine refused = behind fine ∙ second_part (records_fault (held_bytes s slot e.length)) (cond (is_of e (header_of (held_bytes s slot e.length))) None (Some Identity)) f refused

  -- none, and whose package it is
  pub identified : (h : Header) (own : Bool) → option_map Package (header_fault (held_bytes s slot 32) e.length) ≡ None → option_map Package (records_fault (held_bytes s slot e.length)) ≡ None
      → h ≡ header_of (held_bytes s slot e.length) → is_of e h ≡ own → package_answer e (held_bytes s slot e.length) ≡ cond own None (Some Identity)
  identified h own fine records header is_own =
      behind fine ∙ ap (λ (o : Option StoreFault). option_or o (cond (is_of e (header_of (held_bytes s slot e.length))) None (Some Identity))) records
      ∙ ap (λ (b : Bool). cond b None (Some Identity)) (ap (is_of e) (sym header) ∙ is_own)
