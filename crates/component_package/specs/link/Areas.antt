-- The two areas of records of eight bytes: merged symbols, and relocations of an image.
use Rattle.std.specs.Prelude.{FitsSigned, ◌≡◌, ℕ, zero, suc, ◌+◌, ◌-◌, ◌*◌, ◌<◌, ◌≤◌, ◌^◌, ◌==◌, List, [], ◌∷◌, ◌++◌, length, replicate, drop, slice_index, unwrap_or, if◌then◌else◌}
use Rattle.std.specs.List.{flat_map, AllByRecursion}
use Rattle.std.specs.Int.{w32, cast_signed, cast_unsigned}
use Rattle.avr_reloc.specs.declared.kind.RelocType.TheVariants.{Abs32}
use Rattle.avr_reloc.specs.declared.fixup.Fixup.{Fixup}
use Rattle.avr_reloc.specs.Kind.{kind_of, number_of}
use Rattle.avr_reloc.specs.Fixups.{end_of}
use Rattle.component_package.specs.declared.part.Place.{Place}
use Rattle.component_package.specs.declared.part.Place.TheVariants as places
use Rattle.component_package.specs.packages.Numbers.{u16_bytes, u16_at, u24_bytes, u24_at, u32_bytes, u32_at}
use Rattle.component_package.specs.declared.limits.TheConstants.{SET_SYMBOLS, SET_RELOCATIONS}
use Rattle.component_package.specs.declared.areas.TheConstants.{SYMBOL_PAGES, RELOCATION_PAGES}
use Rattle.component_package.specs.packages.Component.{number_of_place}
use Rattle.component_package.specs.packages.Reading.{place_of}

-- so many bytes: the records, and 0xFF behind them
abbrev pub area_bytes : {X : Type 0} → (X → List ℕ) → ℕ → List X → List ℕ
area_bytes write size xs = flat_map write xs ++ replicate (size - 8 * length xs) 255

-- the records of an area, n at most: up to the first whose byte at `mark` is 0xFF
abbrev pub records_of : {X : Type 0} → (List ℕ → X) → ℕ → ℕ → List ℕ → List X
records_of read mark zero b = []
records_of read mark (suc n) b = if slice_index b mark == 255 then [] else read b ∷ records_of read mark n (drop 8 b)

-- ---- relocations

-- a record of the list: offset, kind, address plus addend
abbrev pub entry_bytes : Fixup → List ℕ
entry_bytes x = u24_bytes x.place ++ number_of x.kind ∷ u32_bytes (cast_unsigned w32 x.s_plus_a)

abbrev pub entry_of : List ℕ → Fixup
entry_of b = record { place = u24_at b 0; kind = unwrap_or (kind_of (slice_index b 3)) Abs32; s_plus_a = cast_signed w32 (u32_at b 4) }

-- numbers that have room in a record
pub record IsEntry (x : Fixup) : Type 0 where
  pub place : x.place < 2 ^ 24
  pub sum : FitsSigned w32 x.s_plus_a

-- no field begins before the former one's end
abbrev pub FieldsRise : ℕ → List Fixup → Type 0
FieldsRise low [] = Unit {0}
FieldsRise low (x ∷ xs) = (low ≤ x.place) × FieldsRise (end_of x) xs

abbrev pub list_bytes : List Fixup → List ℕ
list_bytes xs = area_bytes entry_bytes (256 * RELOCATION_PAGES) xs

unfoldable pub entries_of : List ℕ → List Fixup
entries_of b = records_of entry_of 3 SET_RELOCATIONS b

-- the area is a relocation list, of these records
pub record Lists (b : List ℕ) (xs : List Fixup) : Type 0 where
  pub few : length xs ≤ SET_RELOCATIONS
  pub entries : AllByRecursion IsEntry xs
  pub rise : FieldsRise 0 xs
  pub spelled : b ≡ list_bytes xs

abbrev pub IsRelocationList : List ℕ → Type 0
IsRelocationList b = Lists b (entries_of b)

-- ---- symbols

-- a symbol with its exporter's place in the set, the kind of its place, and its address
pub record MergedSymbol : Type 0 where
  pub symbol : ℕ
  pub exporter : ℕ
  pub place : Place
  pub address : ℕ

abbrev pub symbol_bytes : MergedSymbol → List ℕ
symbol_bytes r = u16_bytes r.symbol ++ r.exporter ∷ number_of_place r.place ∷ u32_bytes r.address

abbrev pub symbol_of : List ℕ → MergedSymbol
symbol_of b = record { symbol = u16_at b 0; exporter = slice_index b 2; place = unwrap_or (place_of (slice_index b 3)) places.Code; address = u32_at b 4 }

pub record IsSymbol (r : MergedSymbol) : Type 0 where
  pub symbol : r.symbol < 2 ^ 16
  pub exporter : r.exporter < 16
  pub address : r.address < 2 ^ 24

abbrev pub SymbolsRise : ℕ → List MergedSymbol → Type 0
SymbolsRise low [] = Unit {0}
SymbolsRise low (r ∷ rs) = (low ≤ r.symbol) × SymbolsRise (r.symbol + 1) rs

abbrev pub table_bytes : List MergedSymbol → List ℕ
table_bytes rs = area_bytes symbol_bytes (256 * SYMBOL_PAGES) rs

unfoldable pub symbols_of_area : List ℕ → List MergedSymbol
symbols_of_area b = records_of symbol_of 2 SET_SYMBOLS b

-- the area is a symbol table, of these records
pub record Tells (b : List ℕ) (rs : List MergedSymbol) : Type 0 where
  pub few : length rs ≤ SET_SYMBOLS
  pub symbols : AllByRecursion IsSymbol rs
  pub rise : SymbolsRise 16 rs
  pub spelled : b ≡ table_bytes rs

abbrev pub IsSymbolTable : List ℕ → Type 0
IsSymbolTable b = Tells b (symbols_of_area b)
