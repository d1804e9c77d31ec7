-- What the rules say of an object that is to be kept as the next version of a component, the key apart. The tests come in the order in which they stand here.
use Rattle.std.specs.Prelude.{ℕ, ◌+◌, Bool, not, ◌&&◌, nat_lt, nat_le, is_none, List, [], ◌∷◌, length, map, Option, Some, None, unwrap_or, if◌then◌else◌}
use Rattle.std.specs.List.{filter, list_all}
use Rattle.std.specs.Option.{option_or}
use Rattle.avr_elf.specs.declared.fault.ElfFault.{ElfFault}
use Rattle.avr_elf.specs.FaultNumber as elf
use Rattle.avr_elf.specs.Faults.{elf_fault}
use Rattle.avr_elf.specs.Object.{Object, object_of}
use Rattle.component_package.specs.packages.Component.{spelling}
use Rattle.object_packer.specs.declared.fault.PackFault.{PackFault}
use Rattle.object_packer.specs.Faults as packing
use Rattle.object_packer.specs.Faults.{pack_fault}
use Rattle.object_packer.specs.Names.{names, number_in}
use Rattle.object_packer.specs.Packed.{packed}
use Rattle.release_rows.specs.declared.row.SymbolRow.{SymbolRow}
use Rattle.release_rows.specs.declared.change.Effect.TheVariants as effects
use Rattle.release_rows.specs.Tables.{Tables, symbol_number, symbol_count, component_number, component_count, version_count}
use Rattle.release_judging.specs.declared.judged.Judged.{Judged}
use Rattle.release_judging.specs.declared.judged.Judged.TheVariants.{Does, Refused}
use Rattle.release_judging.specs.Judging.{are_distinct}
use Rattle.release_versions.specs.Faults.{elf_values, pack_values}

-- ---- numbers of names

-- the number that is free behind a name: the same where the name has one, else the next
abbrev pub free_after : ℕ → Option ℕ → ℕ
free_after free (Some number) = free
free_after free None = free + 1

-- these names with numbers: each its own where it has one, and from `free` on for the others
abbrev pub named : Tables → ℕ → List (List ℕ) → List SymbolRow
named t free [] = []
named t free (n ∷ ns) = record { number = unwrap_or (symbol_number t n) free; name = n } ∷ named t (free_after free (symbol_number t n)) ns

-- an object's names with numbers; the first symbol has number 16
abbrev pub named_of : Tables → Object → List SymbolRow
named_of t o = named t (16 + symbol_count t) (names o)

-- the numbers alone, and the rows that are new
abbrev pub numbers_of : Tables → Object → List ℕ
numbers_of t o = map (λ r. r.number) (named_of t o)

abbrev pub new_symbols : Tables → Object → List SymbolRow
new_symbols t o = filter (λ r. is_none (symbol_number t r.name)) (named_of t o)

-- no two of these are the same, and none is below 16
abbrev pub are_symbols : List ℕ → Bool
are_symbols numbers = are_distinct numbers && list_all (λ n. nat_le 16 n) numbers

-- ---- numbers of components and versions

-- the number behind so many, where there is one
abbrev pub next_number : ℕ → Option ℕ
next_number count = if nat_le 65535 count then None else Some (count + 1)

-- a component's number: its own where its name has one, else the next, where there is room for one more
abbrev pub component_for : Tables → List ℕ → Option ℕ
component_for t name = option_or (component_number t name) (next_number (component_count t))

-- the next version of a component, where there is room for one more
abbrev pub version_for : Tables → ℕ → Option ℕ
version_for t component = next_number (version_count t component)

-- ---- a version

-- the version with an object's package, where there are numbers for its names
abbrev pub judged_names : Tables → List ℕ → Object → ℕ → ℕ → Judged
judged_names t name o component version =
    if nat_lt 65520 (symbol_count t + length (new_symbols t o)) then Refused 51 []
    else if not (are_symbols (numbers_of t o)) then Refused 51 []
    else Does (effects.Version name component version (new_symbols t o) (spelling (packed o component version (number_in (names o) (numbers_of t o)))))

abbrev pub judged_next : Tables → List ℕ → Object → ℕ → Option ℕ → Judged
judged_next t name o component None = Refused 53 []
judged_next t name o component (Some version) = judged_names t name o component version

abbrev pub judged_component : Tables → List ℕ → Object → Option ℕ → Judged
judged_component t name o None = Refused 52 []
judged_component t name o (Some component) = judged_next t name o component (version_for t component)

abbrev pub judged_object : Tables → List ℕ → Object → Option PackFault → Judged
judged_object t name o (Some f) = Refused (200 + packing.number_of f) (pack_values f)
judged_object t name o None = judged_component t name o (component_for t name)

abbrev pub judged_file : Tables → List ℕ → List ℕ → Option ElfFault → Judged
judged_file t name file (Some f) = Refused (100 + elf.number_of f) (elf_values f)
judged_file t name file None = judged_object t name (object_of file) (pack_fault (object_of file))

-- the file is an object, the object can be packed, and there is room for a component, for a version and for symbols
abbrev pub judged_version : Tables → (name : List ℕ) → (file : List ℕ) → Judged
judged_version t name file = judged_file t name file (elf_fault file)
