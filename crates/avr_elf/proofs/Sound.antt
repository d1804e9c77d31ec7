-- What holds of a file with no fault.
use Rattle.std.proofs.Common.{◌≡◌, ℕ, ◌+◌, ◌-◌, ◌/◌, ◌<◌, ◌≤◌, Bool, true, false, Option, Some, None, List, length, refl, sym, ◌∙◌, arith}
use Rattle.std.specs.Prelude.{not, nat_lt, nat_le, ◌&&◌, ◌||◌, ◌==◌, is_some}
use Rattle.std.proofs.lemmas.Bool.{leb-true, ltb-true, eqb-true, and_parts}
use Rattle.avr_elf.specs.declared.fault.ElfFault.{ElfFault}
use Rattle.avr_elf.specs.declared.fault.ElfFault.TheVariants.{SectionTable, StringTable, SymbolTable}
use Rattle.avr_elf.specs.declared.constants.TheConstants.{RELA, WEAK}
use Rattle.avr_elf.specs.declared.header.SectionHeader.{SectionHeader}
use Rattle.avr_elf.specs.Header.{section_count, header_at, header_of}
use Rattle.avr_elf.specs.Header.{names_index}
use Rattle.avr_elf.specs.Section.{has_bytes, is_within, is_string_table, is_symtab, symtab_of, patches, table_of, IsPlaced, ArePlaced}
use Rattle.avr_elf.specs.Entry.{symbol_entry}
use Rattle.avr_elf.specs.Object.{bytes_of}
use Rattle.avr_elf.specs.View.{AreNamed, AreSymbols}
use Rattle.avr_elf.specs.First.{first_of, first_index}
use Rattle.avr_elf.specs.Faults.{unless, place_fault, name_fault, second_symtab_fault, has_strings, has_section, has_value, symbol_at, symbol_fault, is_patched_before}
use Rattle.avr_elf.proofs.FirstLemmas.{first_of-none, first_index-more, first_index-some}
use Rattle.avr_elf.proofs.Lists.{length-slice_range}

-- a test that gives no fault holds
pub unless-none : (b : Bool) (x : ElfFault) → unless b x ≡ None → b ≡ true
unless-none true x e = refl
unless-none false x e = absurd cc

-- one side holds, and it is not the left
pub right_side : (a b : Bool) → (not a || b) ≡ true → a ≡ true → b ≡ true
right_side true b e h = e
right_side false b e h = absurd cc

-- where no section has a fault of its place, each is in its place
pub are_placed : (file : List ℕ) → first_of (place_fault file) (section_count file) ≡ None → ArePlaced file
are_placed file none = λ i lt bytes.
    let here = first_of-none (place_fault file) (section_count file) i none lt in
    let test = unless-none _ (SectionTable (header_at file i)) here in
    leb-true _ _ (right_side (has_bytes (header_of file i)) (is_within file (header_of file i)) test bytes)

-- a symbol table that is not the first is at fault
pub second_symtab-at : (file : List ℕ) (i : ℕ) (found : Option ℕ) → found ≡ first_index (is_symtab file) i → (header_of file i).kind ≡ 2 → is_some found ≡ true
    → second_symtab_fault file i ≡ Some (SymbolTable (header_at file i))
second_symtab-at file i found is kind some = rw (kind, ← is, some) refl

-- a mark after one more table says what is patched before the next
pub marks-more : (file : List ℕ) (r k : ℕ) (old new : Bool) (h : SectionHeader) → h ≡ header_of file r → old ≡ is_patched_before file r k
    → new ≡ (old || (h.kind == RELA && h.info == k)) → new ≡ is_patched_before file (r + 1) k
marks-more file r k old new h h_is old_is new_is = rw (new_is, old_is, h_is) (sym (first_index-more (patches file k) r))

-- a section that is there, its bytes within the file
pub record IsTable (file : List ℕ) (t : ℕ) : Type 0 where
  pub below : t < section_count file
  pub placed : (header_of file t).offset + (header_of file t).size ≤ length file

-- the symbol table is one
pub symtab-is_table : (file : List ℕ) (t : ℕ) → ArePlaced file → symtab_of file ≡ Some t → IsTable file t
symtab-is_table file t placed e =
    let first = first_index-some (is_symtab file) (section_count file) t e in
    let kind : (header_of file t).kind ≡ 2 = eqb-true _ _ first.passes in
    record { below = first.below; placed = placed t first.below (rw kind refl) }

-- a table of relocations is one
pub rela_table-is_table : (file : List ℕ) (k r : ℕ) → ArePlaced file → table_of file k ≡ Some r → IsTable file r
rela_table-is_table file k r placed e =
    let first = first_index-some (patches file k) (section_count file) r e in
    let kind : (header_of file r).kind ≡ 4 = eqb-true _ _ (and_parts _ _ first.passes).0 in
    record { below = first.below; placed = placed r first.below (rw kind refl) }

-- a string table has as many bytes as its header says
length-strings : (file : List ℕ) (h : SectionHeader) → is_string_table file h ≡ true → IsPlaced file h → length (bytes_of file h) ≡ h.size
length-strings file h strings placed =
    let kind : h.kind ≡ 3 = eqb-true _ _ (and_parts _ _ (and_parts _ _ strings).0).0 in
    let bytes : has_bytes h ≡ true = rw kind refl in
    let within = placed bytes in
    let size : h.offset + h.size - h.offset ≡ h.size = omega arith in
    rw bytes (length-slice_range file h.offset (h.offset + h.size) within ∙ size)

-- where no name has a fault, each begins within the string table
pub are_named : (file : List ℕ) → is_string_table file (header_of file (names_index file)) ≡ true → names_index file < section_count file → ArePlaced file
    → first_of (name_fault file) (section_count file) ≡ None → AreNamed file
are_named file strings inside placed none = λ i lt.
    let n = length-strings file (header_of file (names_index file)) strings (placed (names_index file) inside) in
    let here = first_of-none (name_fault file) (section_count file) i none lt in
    let below = ltb-true _ _ (unless-none _ (StringTable (header_at file i)) here) in
    omega (arith, n, below)

-- where no symbol has a fault, each name begins within the string table
pub are_symbols : (file : List ℕ) (t : ℕ) → has_strings file (header_of file t) ≡ true → ArePlaced file
    → first_of (symbol_fault file (header_of file t)) ((header_of file t).size / 16) ≡ None → AreSymbols file t
are_symbols file t strings placed none =
    let parts = and_parts (nat_lt (header_of file t).link (section_count file)) (is_string_table file (header_of file (header_of file t).link)) strings in
    let link : (header_of file t).link < section_count file = ltb-true _ _ parts.0 in
    let n = length-strings file (header_of file (header_of file t).link) parts.1 (placed (header_of file t).link link) in
    record {
      link = link;
      named = λ i lt.
          let here = first_of-none (symbol_fault file (header_of file t)) ((header_of file t).size / 16) i none lt in
          let tests = unless-none _ (SymbolTable (symbol_at (header_of file t) i)) here in
          let s = symbol_entry file (symbol_at (header_of file t) i) in
          let strings_size = (header_of file (header_of file t).link).size in
          let in_section = and_parts (nat_lt s.name strings_size && nat_le s.binding WEAK && has_section file s) (has_value file s) tests in
          let bound = and_parts (nat_lt s.name strings_size && nat_le s.binding WEAK) (has_section file s) in_section.0 in
          let named = and_parts (nat_lt s.name strings_size) (nat_le s.binding WEAK) bound.0 in
          let below = ltb-true _ _ named.0 in
          omega (arith, n, below);
    }
