-- What holds of each object that a file means, in the object's own terms.
use Rattle.std.specs.Prelude.{◌≡◌, ◌≢◌, ℕ, ◌<◌, ◌≤◌, Bool, true, not, ◌||◌, ◌==◌, nat_lt, bit_and, length, slice_get, Some}
use Rattle.avr_elf.specs.declared.constants.TheConstants.{PROGBITS, NOBITS, ALLOC, WEAK, UNDEF, ABS, COMMON}
use Rattle.avr_elf.specs.declared.relocation.Rela.{Rela}
use Rattle.avr_elf.specs.Object.{SectionParts, SymbolParts, Object, relas_at}

-- the section is in memory when the program runs
abbrev pub is_loaded : SectionParts → Bool
is_loaded s = not (bit_and s.flags ALLOC == 0)

-- a section in memory is bytes or room of the program, and the program's bytes are as many as the size says
pub record IsSection (s : SectionParts) : Type 0 where
  pub kind : is_loaded s ≡ true → (s.kind == PROGBITS || s.kind == NOBITS) ≡ true
  pub whole : s.kind ≡ PROGBITS → length s.bytes ≡ s.size

-- a symbol is local, global or weak, has a section of the object or a special index, and is within its section or at its end
pub record IsSymbolOf (o : Object) (s : SymbolParts) : Type 0 where
  pub known : s.binding ≤ WEAK
  pub index : (nat_lt s.section (length o.sections) || s.section == ABS || s.section == COMMON) ≡ true
  pub within : (x : SectionParts) → s.section ≢ UNDEF → slice_get o.sections s.section ≡ Some x → is_loaded x ≡ true → s.value ≤ x.size

-- a relocation of section k begins within the section, which is bytes in memory, and names a symbol of the object
pub record IsRelaOf (o : Object) (k : ℕ) (x : Rela) : Type 0 where
  pub names : x.symbol < length o.symbols
  pub loaded : (s : SectionParts) → slice_get o.sections k ≡ Some s → is_loaded s ≡ true
  pub bytes : (s : SectionParts) → slice_get o.sections k ≡ Some s → s.kind ≡ PROGBITS
  pub within : (s : SectionParts) → slice_get o.sections k ≡ Some s → x.offset < s.size

-- each part of an object is one that can be
pub record IsWellFormed (o : Object) : Type 0 where
  pub tables : length o.relas ≡ length o.sections
  pub sections : (i : ℕ) (s : SectionParts) → slice_get o.sections i ≡ Some s → IsSection s
  pub symbols : (i : ℕ) (s : SymbolParts) → slice_get o.symbols i ≡ Some s → IsSymbolOf o s
  pub relas : (k i : ℕ) (x : Rela) → slice_get (relas_at o k) i ≡ Some x → IsRelaOf o k x
