-- An object that a file means is well formed.
use Rattle.std.proofs.Common.{◌≡◌, ◌≢◌, ℕ, ◌+◌, ◌-◌, ◌/◌, ◌%◌, ◌<◌, ◌≤◌, Bool, true, false, cond, Option, Some, None, List, [], refl, sym, ap, subst, ◌∙◌, inl, inr, arith}
use Rattle.std.specs.Prelude.{not, ◌&&◌, ◌||◌, ◌==◌, nat_lt, nat_le, slice_get, unwrap_or}
use Rattle.std.proofs.lemmas.Bool.{leb-true, ltb-true, lt-ltb, eqb-true, and_parts, cases_order}
use Rattle.std.proofs.lemmas.Bool.Decides.{eqb_tells}
use Rattle.std.proofs.lemmas.Option.{slice_get_past}
use Rattle.avr_elf.specs.declared.constants.TheConstants.{PROGBITS, RELA, NOBITS, REL, GROUP, SYMTAB_SHNDX, WEAK, UNDEF}
use Rattle.avr_elf.specs.declared.header.SectionHeader.{SectionHeader}
use Rattle.avr_elf.specs.declared.relocation.Rela.{Rela}
use Rattle.avr_elf.specs.declared.fault.ElfFault.{ElfFault}
use Rattle.avr_elf.specs.declared.fault.ElfFault.TheVariants.{SymbolTable, Unsupported, StringTable, RelocationTable, SymbolIndex}
use Rattle.avr_elf.specs.First.{first_of, list_of}
use Rattle.avr_elf.specs.Header.{section_count, header_at, header_of}
use Rattle.avr_elf.specs.Section.{is_allocated, has_bytes, is_supported, symtab_of, patches, table_of}
use Rattle.avr_elf.specs.Entry.{symbol_entry, rela_entry}
use Rattle.avr_elf.specs.Faults.{elf_fault, file_header_fault, sections_fault, tables_fault, names_fault, place_fault, kind_fault, second_symtab_fault, symbols_fault, has_strings, has_symbols, symbol_fault, is_symbol, has_section, has_value, symbol_at, symbol_count, rela_at, rela_fault, is_symtab_index, is_patched_before, is_rela_table, rela_table_fault}
use Rattle.avr_elf.specs.Object.{SectionParts, SymbolParts, Object, relas_at, section_of, symbol_of, symbols_of, relas_in, relas_of, object_of, IsObject}
use Rattle.avr_elf.specs.WellFormed.{is_loaded, IsSection, IsSymbolOf, IsRelaOf, IsWellFormed}
use Rattle.avr_elf.proofs.FirstLemmas.{none_or, first_of-none, first_index-some}
use Rattle.avr_elf.proofs.Lists.{length-list_of, slice_get-list_of, length-slice_range}
use Rattle.avr_elf.proofs.Sound.{unless-none, are_placed}
use Rattle.avr_elf.proofs.ObjectLemmas.{one_object, is_object, length-symbols_of}

-- ---- the parts of no fault

-- a test that found nothing wrong, and what is tested behind it
passed : (b : Bool) (x : ElfFault) (o : Option ElfFault) → cond (not b) (Some x) o ≡ None → (b ≡ true) × (o ≡ None)
passed true x o e = (refl, e)
passed false x o e = absurd cc

-- a test that ends the checks without a fault, or doesn't
skipped : (b : Bool) (o : Option ElfFault) → b ≡ true → cond (not b) None o ≡ None → o ≡ None
skipped true o h e = e
skipped false o h e = absurd cc

-- no fault in any of the steps that come by sections
pub record HasNoFault (file : List ℕ) : Type 0 where
  pub places : first_of (place_fault file) (section_count file) ≡ None
  pub kinds : first_of (kind_fault file) (section_count file) ≡ None
  pub symbols : symbols_fault file (symtab_of file) ≡ None
  pub relas : first_of (rela_table_fault file) (section_count file) ≡ None

has_no_fault : (file : List ℕ) → elf_fault file ≡ None → HasNoFault file
has_no_fault file none =
    let header = none_or (file_header_fault file) _ none in
    let both = none_or (sections_fault file) (tables_fault file) header.1 in
    let places = none_or (first_of (place_fault file) (section_count file)) _ both.0 in
    let kinds = none_or (first_of (kind_fault file) (section_count file)) (names_fault file) places.1 in
    let second = none_or (first_of (second_symtab_fault file) (section_count file)) _ both.1 in
    let symbols = none_or (symbols_fault file (symtab_of file)) _ second.1 in
    record { places = places.0; kinds = kinds.0; symbols = symbols.0; relas = symbols.1 }

-- ---- what is read of a list of numbered things

-- the element that a list of numbered things gives
pub record IsNumbered {X : Type 0} (f : ℕ → X) (n i : ℕ) (x : X) : Type 0 where
  pub below : i < n
  pub same : f i ≡ x

numbered : {X : Type 0} (f : ℕ → X) (n i : ℕ) (x : X) → slice_get (list_of f n) i ≡ Some x → IsNumbered f n i x
numbered {X} f n i x e =
    elim (cases_order i n) [
      | inl same ↦ absurd (past (omega arith))
      | inr (inl below) ↦ record { below = below; same = let here = slice_get-list_of f n i below in cc }
      | inr (inr above) ↦ absurd (past (omega arith))
    ]
  where
    past : n ≤ i → ⊥
    past le = let none = slice_get_past (list_of f n) i (omega (arith, length-list_of f n)) in cc

-- ---- sections

-- of three choices one of the last two holds where the first, a denial, does not
last_two : (a p q : Bool) → (not a || p || q) ≡ true → a ≡ true → (p || q) ≡ true
last_two true p q e h = e
last_two false p q e h = absurd cc

is_section : (file : List ℕ) (i : ℕ) → HasNoFault file → i < section_count file → IsSection (section_of file i)
is_section file i clean lt =
    let h = header_of file i in
    let supported = unless-none (is_supported h) (Unsupported (header_at file i) h.kind) (first_of-none (kind_fault file) (section_count file) i clean.kinds lt) in
    let last = and_parts (not (h.kind == REL) && not (h.kind == GROUP) && not (h.kind == SYMTAB_SHNDX)) (not (is_allocated h) || h.kind == PROGBITS || h.kind == NOBITS) supported in
    record {
      kind = λ loaded. last_two (is_allocated h) (h.kind == PROGBITS) (h.kind == NOBITS) last.1 loaded;
      whole = λ kind.
          let bytes : has_bytes h ≡ true = rw kind refl in
          let within = are_placed file clean.places i lt bytes in
          let size : h.offset + h.size - h.offset ≡ h.size = omega arith in
          rw bytes (length-slice_range file h.offset (h.offset + h.size) within ∙ size);
    }

-- ---- symbols

-- a value is bounded where the symbol is in memory
bounded : (undefined inside allocated bound : Bool) → (not (not undefined && inside && allocated) || bound) ≡ true → undefined ≡ false → inside ≡ true → allocated ≡ true → bound ≡ true
bounded false true true bound e u i a = e
bounded false true false bound e u i a = absurd cc
bounded false false allocated bound e u i a = absurd cc
bounded true inside allocated bound e u i a = absurd cc

is_symbol_of : (file : List ℕ) (table : SectionHeader) (i strings : ℕ) → is_symbol file strings (symbol_entry file (symbol_at table i)) ≡ true
    → IsSymbolOf (object_of file) (symbol_of file table i)
is_symbol_of file table i strings tests =
    let s = symbol_entry file (symbol_at table i) in
    let placed = and_parts (nat_lt s.name strings && nat_le s.binding WEAK && has_section file s) (has_value file s) tests in
    let bound = and_parts (nat_lt s.name strings && nat_le s.binding WEAK) (has_section file s) placed.0 in
    let known = and_parts (nat_lt s.name strings) (nat_le s.binding WEAK) bound.0 in
    record {
      known = leb-true _ _ known.1;
      index = rw (length-list_of (section_of file) (section_count file)) bound.1;
      within = λ x defined here loaded.
          let there = numbered (section_of file) (section_count file) s.section x here in
          let undefined : (s.section == UNDEF) ≡ false = differs s.section defined in
          let inside = lt-ltb s.section (section_count file) there.below in
          let allocated : is_allocated (header_of file s.section) ≡ true = subst (λ (y : SectionParts). is_loaded y ≡ true) (sym there.same) loaded in
          let value = bounded (s.section == UNDEF) (nat_lt s.section (section_count file)) (is_allocated (header_of file s.section)) (nat_le s.value (header_of file s.section).size) placed.1 undefined inside allocated in
          subst (λ (y : SectionParts). s.value ≤ y.size) there.same (leb-true _ _ value);
    }
  where
    differs : (n : ℕ) → n ≢ 0 → (n == 0) ≡ false
    differs n ne = elim (eqb_tells n 0) [ inl e ↦ absurd (ne e.1) | inr d ↦ d.0 ]

are_symbols_of : (file : List ℕ) (t : Option ℕ) (i : ℕ) (s : SymbolParts) → symbols_fault file t ≡ None → slice_get (symbols_of file t) i ≡ Some s → IsSymbolOf (object_of file) s
are_symbols_of file None i s none here = absurd cc
are_symbols_of file (Some t) i s none here =
    let table = header_of file t in
    let strings = passed (has_strings file table) (StringTable (header_at file t)) _ none in
    let each = passed (has_symbols table) (SymbolTable (header_at file t)) _ strings.1 in
    let there = numbered (symbol_of file table) (table.size / 16) i s here in
    let test = unless-none _ (SymbolTable (symbol_at table i)) (first_of-none (symbol_fault file table) (table.size / 16) i each.1 there.below) in
    subst (λ (y : SymbolParts). IsSymbolOf (object_of file) y) there.same (is_symbol_of file table i (header_of file table.link).size test)

-- ---- relocations

-- what holds of relocation i of the table r, which patches section k
record IsGoodRela (file : List ℕ) (k : ℕ) (x : Rela) : Type 0 where
  pub symbol : x.symbol < symbol_count file
  pub kind : (header_of file k).kind ≡ PROGBITS
  pub place : x.offset < (header_of file k).size

is_good_rela : (file : List ℕ) (k r i : ℕ) → HasNoFault file → k < section_count file → is_allocated (header_of file k) ≡ true → table_of file k ≡ Some r
    → i < (header_of file r).size / 12 → IsGoodRela file k (rela_entry file (rela_at (header_of file r) i))
is_good_rela file k r i clean lt allocated found inside =
    let table = header_of file r in
    let x = rela_entry file (rela_at table i) in
    let first = first_index-some (patches file k) (section_count file) r found in
    let both = and_parts (table.kind == RELA) (table.info == k) first.passes in
    let info : table.info ≡ k = eqb-true _ _ both.1 in
    let below : nat_lt table.info (section_count file) ≡ true = rw info (lt-ltb k (section_count file) lt) in
    let target : is_allocated (header_of file table.info) ≡ true = rw info allocated in
    let none = first_of-none (rela_table_fault file) (section_count file) r clean.relas first.below in
    let a = skipped (table.kind == RELA) _ both.0 none in
    let b = passed (nat_lt table.info (section_count file)) (RelocationTable (header_at file r)) _ a in
    let c = skipped (is_allocated (header_of file table.info)) _ target b.1 in
    let d = passed (is_rela_table file r table) (RelocationTable (header_at file r)) _ c in
    let fine = first_of-none (rela_fault file table (header_of file table.info).size (symbol_count file)) (table.size / 12) i d.1 inside in
    let place = passed (nat_lt x.offset (header_of file table.info).size) (RelocationTable (rela_at table i)) _ fine in
    let symbol = passed (nat_lt x.symbol (symbol_count file)) (SymbolIndex (rela_at table i)) _ place.1 in
    let leans = and_parts (is_symtab_index (symtab_of file) table.link && table.entry_size == 12 && table.size % 12 == 0 && (header_of file table.info).kind == PROGBITS) (not (is_patched_before file r table.info)) d.0 in
    let bytes = and_parts (is_symtab_index (symtab_of file) table.link && table.entry_size == 12 && table.size % 12 == 0) ((header_of file table.info).kind == PROGBITS) leans.0 in
    let kind : (header_of file table.info).kind ≡ PROGBITS = eqb-true _ _ bytes.1 in
    record { symbol = ltb-true _ _ symbol.0; kind = rw info at kind; place = rw info at (ltb-true _ _ place.0) }

-- a list that is not empty was chosen
chosen : (b : Bool) (xs : List Rela) (i : ℕ) (x : Rela) → slice_get (cond b xs []) i ≡ Some x → (b ≡ true) × (slice_get xs i ≡ Some x)
chosen true xs i x e = (refl, e)
chosen false xs i x e = absurd cc

are_good_relas : (file : List ℕ) (k i : ℕ) (x : Rela) (found : Option ℕ) → HasNoFault file → k < section_count file → is_allocated (header_of file k) ≡ true → table_of file k ≡ found
    → slice_get (relas_in file found) i ≡ Some x → IsGoodRela file k x
are_good_relas file k i x None clean lt allocated is here = absurd cc
are_good_relas file k i x (Some r) clean lt allocated is here =
    let there = numbered (λ j. rela_entry file (rela_at (header_of file r) j)) ((header_of file r).size / 12) i x here in
    subst (λ (y : Rela). IsGoodRela file k y) there.same (is_good_rela file k r i clean lt allocated is there.below)

is_rela_of : (file : List ℕ) (k i : ℕ) (x : Rela) → HasNoFault file → k < section_count file → slice_get (relas_of file k) i ≡ Some x → IsRelaOf (object_of file) k x
is_rela_of file k i x clean lt here =
    let allocated = chosen (is_allocated (header_of file k)) (relas_in file (table_of file k)) i x here in
    let good = are_good_relas file k i x (table_of file k) clean lt allocated.0 refl allocated.1 in
    let section : (s : SectionParts) → slice_get (object_of file).sections k ≡ Some s → section_of file k ≡ s = λ s e. (numbered (section_of file) (section_count file) k s e).same in
    record {
      names = rw (length-symbols_of file (symtab_of file)) good.symbol;
      loaded = λ s e. subst (λ (y : SectionParts). is_loaded y ≡ true) (section s e) allocated.0;
      bytes = λ s e. subst (λ (y : SectionParts). y.kind ≡ PROGBITS) (section s e) good.kind;
      within = λ s e. subst (λ (y : SectionParts). x.offset < y.size) (section s e) good.place;
    }

-- the relocations of a section that is not there are none
are_relas_of : (file : List ℕ) (k i : ℕ) (x : Rela) → HasNoFault file → slice_get (relas_at (object_of file) k) i ≡ Some x → IsRelaOf (object_of file) k x
are_relas_of file k i x clean here =
    elim (cases_order k (section_count file)) [
      | inl same ↦ absurd (past (omega arith))
      | inr (inl below) ↦
          let there = slice_get-list_of (relas_of file) (section_count file) k below in
          let e = ap (λ (o : Option (List Rela)). slice_get (unwrap_or o []) i) there in
          is_rela_of file k i x clean below (sym e ∙ here)
      | inr (inr above) ↦ absurd (past (omega arith))
    ]
  where
    past : section_count file ≤ k → ⊥
    past le =
        let none = slice_get_past (list_of (relas_of file) (section_count file)) k (omega (arith, length-list_of (relas_of file) (section_count file))) in
        let e = ap (λ (o : Option (List Rela)). slice_get (unwrap_or o []) i) none in
        cc

-- ---- the whole

-- the object of a file with no fault is well formed
pub well_formed : (file : List ℕ) → elf_fault file ≡ None → IsWellFormed (object_of file)
well_formed file sound =
    let clean = has_no_fault file sound in
    record {
      tables = length-list_of (relas_of file) (section_count file) ∙ sym (length-list_of (section_of file) (section_count file));
      sections = λ i s here.
          let there = numbered (section_of file) (section_count file) i s here in
          subst (λ (y : SectionParts). IsSection y) there.same (is_section file i clean there.below);
      symbols = λ i s here. are_symbols_of file (symtab_of file) i s clean.symbols here;
      relas = λ k i x here. are_relas_of file k i x clean here;
    }

-- and so is each object that a file means
pub means_well_formed : (file : List ℕ) (o : Object) → IsObject file o → IsWellFormed o
means_well_formed file o meant = subst (λ (p : Object). IsWellFormed p) (one_object file (object_of file) o (is_object file meant.bytes meant.sound) meant) (well_formed file meant.sound)
