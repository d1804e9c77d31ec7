-- What the entries of a symbol table and of a table of relocations say.
use Rattle.std.specs.Prelude.{ℕ, ◌+◌, ◌/◌, ◌%◌, List, slice_index}
use Rattle.std.specs.Int.{w32, cast_signed}
use Rattle.avr_elf.specs.declared.symbol.SymbolEntry.{SymbolEntry}
use Rattle.avr_elf.specs.declared.relocation.Rela.{Rela}
use Rattle.avr_elf.specs.Number.{u16_at, u32_at}

-- the symbol whose sixteen bytes are at an offset
unfoldable pub symbol_entry : List ℕ → ℕ → SymbolEntry
symbol_entry file at =
    record {
      name = u32_at file at;
      value = u32_at file (at + 4);
      size = u32_at file (at + 8);
      binding = slice_index file (at + 12) / 16;
      kind = slice_index file (at + 12) % 16;
      section = u16_at file (at + 14);
    }

-- the relocation whose twelve bytes are at an offset
unfoldable pub rela_entry : List ℕ → ℕ → Rela
rela_entry file at =
    let info = u32_at file (at + 4) in
    record { offset = u32_at file at; symbol = info / 256; kind = info % 256; addend = cast_signed w32 (u32_at file (at + 8)) }
