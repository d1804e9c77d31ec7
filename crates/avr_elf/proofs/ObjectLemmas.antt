-- Objects and the files that mean them.
use Rattle.std.proofs.Common.{◌≡◌, ℕ, ◌/◌, ◌<◌, Option, Some, None, List, [], length, refl, sym, ap, ◌∙◌}
use Rattle.std.specs.Prelude.{unwrap_or}
use Rattle.avr_elf.specs.declared.relocation.Rela.{Rela}
use Rattle.avr_elf.specs.Header.{section_count, header_of}
use Rattle.avr_elf.specs.Faults.{elf_fault, entries_of}
use Rattle.avr_elf.specs.Object.{SectionParts, SymbolParts, Object, section_of, symbol_of, symbols_of, relas_of, object_of, relas_at, AreBytes, IsObject}
use Rattle.avr_elf.proofs.Lists.{length-list_of, slice_get-list_of, same_elements}

-- a file with no fault means its object
pub is_object : (file : List ℕ) → AreBytes file → elf_fault file ≡ None → IsObject file (object_of file)
is_object file bytes sound =
    record {
      bytes = bytes;
      sound = sound;
      count = length-list_of (section_of file) (section_count file);
      sections = λ i lt. slice_get-list_of (section_of file) (section_count file) i lt;
      symbols = refl;
      tables = length-list_of (relas_of file) (section_count file);
      relas = λ k lt. slice_get-list_of (relas_of file) (section_count file) k lt;
    }

-- the object of these parts
abbrev made : List SectionParts → List SymbolParts → List (List Rela) → Object
made s y r = record { sections = s; symbols = y; relas = r }

-- no file means two objects
pub one_object : (file : List ℕ) (o p : Object) → IsObject file o → IsObject file p → o ≡ p
one_object file o p left right =
    let sections = same_elements o.sections p.sections (section_count file) left.count right.count (λ i lt. left.sections i lt ∙ sym (right.sections i lt)) in
    let symbols = left.symbols ∙ sym right.symbols in
    let relas = same_elements o.relas p.relas (section_count file) left.tables right.tables (λ k lt. left.relas k lt ∙ sym (right.relas k lt)) in
    let same : made o.sections o.symbols o.relas ≡ made p.sections p.symbols p.relas = rw (sections, symbols, relas) refl in
    same

-- the symbols of a file are as many as its symbol table has
pub length-symbols_of : (file : List ℕ) (t : Option ℕ) → length (symbols_of file t) ≡ entries_of file t
length-symbols_of file None = refl
length-symbols_of file (Some t) = length-list_of (symbol_of file (header_of file t)) ((header_of file t).size / 16)

-- the relocations of a section of the object
pub relas_at-object_of : (file : List ℕ) (k : ℕ) → k < section_count file → relas_at (object_of file) k ≡ relas_of file k
relas_at-object_of file k lt = ap (λ (o : Option (List Rela)). unwrap_or o []) (slice_get-list_of (relas_of file) (section_count file) k lt)
