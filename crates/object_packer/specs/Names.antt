-- The names that need numbers.
use Rattle.std.specs.Prelude.{ℕ, Bool, not, ◌&&◌, ◌||◌, ◌==◌, bytes_eq, List, [], ◌∷◌, length, map, is_some, if◌then◌else◌}
use Rattle.std.specs.List.{filter, list_any, range_with_len}
use Rattle.avr_elf.specs.declared.constants.TheConstants.{UNDEF, ABS}
use Rattle.avr_elf.specs.Object.{SymbolParts, Object}
use Rattle.object_packer.specs.Sections.{symbol_at}
use Rattle.object_packer.specs.References.{is_local, symbol_home, linker_target}
use Rattle.object_packer.specs.Relocations.{kept}

-- other components may refer to a symbol
abbrev pub is_export : Object → SymbolParts → Bool
is_export o s = not (is_local s) && (s.section == ABS || is_some (symbol_home o s))

-- other components may refer to symbol i
abbrev pub is_exported : Object → ℕ → Bool
is_exported o i = is_export o (symbol_at o i)

-- the exported symbols among the first n, by rising index
abbrev pub exported_before : Object → ℕ → List ℕ
exported_before o n = filter (is_exported o) (range_with_len 0 n)

-- all exported symbols
abbrev pub exported : Object → List ℕ
exported o = exported_before o (length o.symbols)

-- a relocation that is kept names symbol i
abbrev pub is_used : Object → ℕ → Bool
is_used o i = list_any (λ x. x.symbol == i) (kept o)

-- the name of a symbol needs a number: it is exported, or undefined and used, and not a linker's symbol
abbrev pub needs : Object → SymbolParts → Bool → Bool
needs o s used = not (is_local s) && not (is_some (linker_target s.name)) && (is_export o s || (s.section == UNDEF && used))

-- the name of symbol i needs a number
abbrev pub needs_number : Object → ℕ → Bool
needs_number o i = needs o (symbol_at o i) (is_used o i)

-- names in the order in which they come first, each once
abbrev pub each_once : List (List ℕ) → List (List ℕ)
each_once [] = []
each_once (n ∷ ns) = n ∷ filter (λ m. not (bytes_eq m n)) (each_once ns)

abbrev pub names_of_symbols : Object → List ℕ → List (List ℕ)
names_of_symbols o is = map (λ i. (symbol_at o i).name) is

-- the names that the first n symbols need numbers for, in the order of symbols, each once
abbrev pub names_before : Object → ℕ → List (List ℕ)
names_before o n = each_once (names_of_symbols o (filter (needs_number o) (range_with_len 0 n)))

-- the names that need numbers
abbrev pub names : Object → List (List ℕ)
names o = names_before o (length o.symbols)

-- the number of a name, where these names have these numbers; of another it is 0
abbrev pub number_in : List (List ℕ) → List ℕ → List ℕ → ℕ
number_in [] numbers name = 0
number_in (n ∷ ns) [] name = 0
number_in (n ∷ ns) (number ∷ numbers) name = if bytes_eq n name then number else number_in ns numbers name
