-- The sections, symbols and relocations of an object by their numbers.
use Rattle.std.specs.Prelude.{ℕ, pos, [], slice_get, unwrap_or}
use Rattle.avr_elf.specs.declared.relocation.Rela.{Rela}
use Rattle.avr_elf.specs.Object.{SectionParts, SymbolParts, Object, relas_at}

-- section k; where there is none, one that is not in memory
abbrev pub section_at : Object → ℕ → SectionParts
section_at o k = unwrap_or (slice_get o.sections k) (record { name = []; kind = 0; flags = 0; size = 0; align = 0; bytes = [] })

-- symbol i; where there is none, a local one that is undefined
abbrev pub symbol_at : Object → ℕ → SymbolParts
symbol_at o i = unwrap_or (slice_get o.symbols i) (record { name = []; value = 0; size = 0; binding = 0; kind = 0; section = 0 })

-- entry i of the relocations of section k; where there is none, one of a type that is not kept
abbrev pub rela_at : Object → ℕ → ℕ → Rela
rela_at o k i = unwrap_or (slice_get (relas_at o k) i) (record { offset = 0; symbol = 0; kind = 0; addend = pos 0 })
