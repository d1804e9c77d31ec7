-- Looking a symbol up in a table: where its record is, and what eight bytes say.
use Rattle.std.specs.Prelude.{◌≡◌, ℕ, ◌+◌, ◌*◌, ◌<◌, ◌==◌, ◌&&◌, not, nat_lt, List, replicate, slice_get, slice_index, Option, Some, None, if◌then◌else◌}
use Rattle.std.specs.List.{prefix_len}
use Rattle.flash_pages.specs.State.{State, Ext, page_at}
use Rattle.component_package.specs.packages.Numbers.{u16_at, u32_at}
use Rattle.component_package.specs.link.Areas.{MergedSymbol, Tells, symbol_bytes}
use Rattle.kept_symbols.specs.declared.table.SymbolReader.{SymbolReader}
use Rattle.kept_symbols.specs.Stored.{symbol_area}

-- how many records have a lesser symbol
abbrev pub first_from : ℕ → List MergedSymbol → ℕ
first_from s rs = prefix_len (λ r. nat_lt r.symbol s) rs

-- the eight bytes of a record, or of none
abbrev pub record_bytes : Option MergedSymbol → List ℕ
record_bytes None = replicate 8 255
record_bytes (Some r) = symbol_bytes r

-- the address that eight bytes say, where they are a record of this symbol: no exporter is 255
abbrev pub address_said : List ℕ → ℕ → Option ℕ
address_said raw s =
    if u16_at raw 0 == s && not (slice_index raw 2 == 255) then Some (u32_at raw 4) else None

-- the symbol that the bytes of record i say, where it is there; else 0xFFFF
abbrev pub symbol_in : List MergedSymbol → ℕ → ℕ
symbol_in rs i = u16_at (record_bytes (slice_get rs i)) 0

-- what a reader of the area keeps is as the board holds it: the page that it read last, and the first symbols that it remembers
pub record KeepsSymbols (s : State) (r : SymbolReader) : Type 0 where
  pub page : r.page < 32 → r.bytes ≡ page_at s (Ext (18 + r.page))
  pub firsts : (p first : ℕ) → slice_get r.firsts p ≡ Some (Some first) → (rs : List MergedSymbol) → Tells (symbol_area s) rs → first ≡ symbol_in rs (32 * p)
