-- What holds where a header has no fault.
use Rattle.std.proofs.Common.{◌≡◌, ℕ, ◌+◌, ◌%◌, ◌≤◌, true, None, List, length, refl, arith}
use Rattle.std.specs.Prelude.{not, nat_lt}
use Rattle.std.proofs.lemmas.Bool.{ltb-false, not-false, eqb-true, leb-true, and_parts}
use Rattle.avr_reloc.proofs.Fixups.{length-field}
use Rattle.component_package.specs.declared.fault.PackageFault.TheVariants.{Short, Magic, Reserved, Parity, Length}
use Rattle.component_package.specs.packages.Reading.{header_of, total_of, header_fault, has_magic, is_blank, has_even_lengths, has_its_length, header_of_component, component_of, export_of, raw_export, reloc_of, raw_reloc}
use Rattle.component_package.proofs.First.{passed}
use Rattle.component_package.proofs.Lists.{length-list_of}

-- the header of a package that has no fault there
pub record IsGoodHeader (b : List ℕ) : Type 0 where
  pub long : 32 ≤ length b
  pub marked : has_magic b ≡ true
  pub blank : is_blank b ≡ true
  pub even_code : (header_of b).code % 2 ≡ 0
  pub even_init : (header_of b).init % 2 ≡ 0
  pub even_bss : (header_of b).bss % 2 ≡ 0
  pub whole : length b ≡ total_of (header_of b)
  pub small : length b ≤ 9984

-- no fault says so
pub good_header : (b : List ℕ) → header_fault b (length b) ≡ None → IsGoodHeader b
good_header b e =
    let h = header_of b in
    let short = passed (nat_lt (length b) 32) Short _ e in
    let magic = passed (not (has_magic b)) Magic _ short.1 in
    let reserved = passed (not (is_blank b)) Reserved _ magic.1 in
    let parity = passed (not (has_even_lengths h)) Parity _ reserved.1 in
    let whole = passed (not (has_its_length h (length b))) Length _ parity.1 in
    let both = and_parts _ _ (not-false _ whole.0) in
    let even = and_parts _ _ (not-false _ parity.0) in
    let front = and_parts _ _ even.0 in
    record {
      long = ltb-false _ _ short.0;
      marked = not-false _ magic.0;
      blank = not-false _ reserved.0;
      even_code = eqb-true _ _ front.0;
      even_init = eqb-true _ _ front.1;
      even_bss = eqb-true _ _ even.1;
      whole = eqb-true _ _ both.0;
      small = leb-true _ _ both.1;
    }

-- the lengths of the parts are the header's
pub parts_have_lengths : (b : List ℕ) → length b ≡ total_of (header_of b) → header_of_component (component_of b) ≡ header_of b
parts_have_lengths b whole =
    let h = header_of b in
    let code = length-field b 32 h.code (omega arith) in
    let init = length-field b (32 + h.code) h.init (omega arith) in
    let exports = length-list_of (λ i. export_of (raw_export b i)) h.exports in
    let relocs = length-list_of (λ i. reloc_of (raw_reloc b i)) h.relocs in
    rw (code, init, exports, relocs) refl
