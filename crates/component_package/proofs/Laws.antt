-- The laws, joined from their parts.
use Rattle.std.proofs.Common.{◌≡◌, ℕ, Bool, cond, eqb, Option, Some, None, List, length, take, drop, refl, sym, ap, ◌∙◌, arith, slice_range}
use Rattle.std.specs.Prelude.{not, nat_lt}
use Rattle.std.specs.List.{list_all}
use Rattle.std.specs.Option.{option_or}
use Rattle.std.proofs.lemmas.List.{get_or-take, drop-take, take-take}
use Rattle.component_package.specs.declared.part.Header.{Header}
use Rattle.component_package.specs.declared.fault.PackageFault.{PackageFault}
use Rattle.component_package.specs.declared.fault.PackageFault.TheVariants.{Short, Magic, Reserved, Parity, Length}
use Rattle.component_package.specs.packages.Reading.{first_fault, header_of, header_fault, has_magic, has_even_lengths, has_its_length, export_fault, exports_fault, reloc_fault, package_fault}
use Rattle.component_package.specs.Laws.{FaultlessBytesSpell, SpellingIsOne, StepsFindTheFault, export_step, reloc_step, fault_by_steps}
use Rattle.component_package.proofs.First.{first_fault-same}
use Rattle.component_package.proofs.InGrammar.{spells}
use Rattle.component_package.proofs.ReadAgain.{spelling_faultless, spelling_said}
use Rattle.component_package.proofs.Steps.{export_said, reloc_said, reloc_step_is}

-- bytes without a fault are those that spell a component
pub faultless_bytes_spell : FaultlessBytesSpell
faultless_bytes_spell = record {
  spells = spells;
  faultless = λ b c s. rw s.bytes (spelling_faultless c s.component);
  said = λ b c s. rw s.bytes (spelling_said c s.component);
}

-- one component, one spelling
pub spelling_is_one : SpellingIsOne
spelling_is_one = record {
  bytes = λ b d c s t. s.bytes ∙ sym t.bytes;
  component = λ b c d s t. sym (faultless_bytes_spell.said b c s) ∙ faultless_bytes_spell.said b d t;
}

-- ---- reading piece by piece

-- the header stands in the first 32 bytes, however few there are
header_in_front : (b : List ℕ) → header_of (take 32 b) ≡ header_of b
header_in_front b =
    rw (
      get_or-take 32 b 4 0 (omega arith),
      get_or-take 32 b 5 0 (omega arith),
      get_or-take 32 b 6 0 (omega arith),
      get_or-take 32 b 7 0 (omega arith),
      get_or-take 32 b 8 0 (omega arith),
      get_or-take 32 b 9 0 (omega arith),
      get_or-take 32 b 10 0 (omega arith),
      get_or-take 32 b 11 0 (omega arith),
      get_or-take 32 b 12 0 (omega arith),
      get_or-take 32 b 13 0 (omega arith),
      get_or-take 32 b 14 0 (omega arith),
      get_or-take 32 b 15 0 (omega arith),
      get_or-take 32 b 16 0 (omega arith),
      get_or-take 32 b 17 0 (omega arith),
    ) refl

-- and so do the four bytes of the magic
magic_in_front : (b : List ℕ) → has_magic (take 32 b) ≡ has_magic b
magic_in_front b = rw (get_or-take 32 b 0 0 (omega arith), get_or-take 32 b 1 0 (omega arith), get_or-take 32 b 2 0 (omega arith), get_or-take 32 b 3 0 (omega arith)) refl

-- bytes 18 to 31 of the first 32 are those of the whole
blank_in_front : (b : List ℕ) → slice_range (take 32 b) 18 32 ≡ slice_range b 18 32
blank_in_front b = ap (take 14) (drop-take 18 14 b) ∙ take-take 14 14 (drop 18 b) (omega arith)

-- a header's fault, by what is tested
abbrev fault_by_tests : Bool → List ℕ → Header → ℕ → Option PackageFault
fault_by_tests magic blank h n =
    cond (nat_lt n 32) (Some Short) (cond (not magic) (Some Magic) (cond (not (list_all (λ x. eqb x 0) blank)) (Some Reserved)
    (cond (not (has_even_lengths h)) (Some Parity) (cond (not (has_its_length h n)) (Some Length) None))))

-- so the header's fault is that of the first 32 bytes
header_fault_in_front : (b : List ℕ) → header_fault (take 32 b) (length b) ≡ header_fault b (length b)
header_fault_in_front b =
    ap (λ (m : Bool). fault_by_tests m (slice_range (take 32 b) 18 32) (header_of (take 32 b)) (length b)) (magic_in_front b)
    ∙ ap (λ (z : List ℕ). fault_by_tests (has_magic b) z (header_of (take 32 b)) (length b)) (blank_in_front b)
    ∙ ap (λ (h : Header). fault_by_tests (has_magic b) (slice_range b 18 32) h (length b)) (header_in_front b)

-- each step answers the fault of its entry
steps_find : (b : List ℕ) → fault_by_steps b ≡ package_fault b
steps_find b =
    let exports = first_fault-same (export_step (header_of b) b) (export_fault b) (header_of b).exports (λ i lt. refl) in
    let relocs = first_fault-same (reloc_step (header_of b) b) (reloc_fault b) (header_of b).relocs (λ i lt. reloc_step_is b i) in
    ap (λ (h : Header). option_or (header_fault (take 32 b) (length b)) (option_or (first_fault (export_step h b) h.exports) (first_fault (reloc_step h b) h.relocs))) (header_in_front b)
    ∙ ap (λ (o : Option PackageFault). option_or o (option_or (first_fault (export_step (header_of b) b) (header_of b).exports) (first_fault (reloc_step (header_of b) b) (header_of b).relocs))) (header_fault_in_front b)
    ∙ ap (λ (o : Option PackageFault). option_or (header_fault b (length b)) (option_or o (first_fault (reloc_step (header_of b) b) (header_of b).relocs))) exports
    ∙ ap (λ (o : Option PackageFault). option_or (header_fault b (length b)) (option_or (exports_fault b) o)) relocs

-- reading piece by piece finds the fault of the whole
pub steps_find_the_fault : StepsFindTheFault
steps_find_the_fault = record {
  fault = steps_find;
  header = header_in_front;
  export = export_said;
  reloc = reloc_said;
}
