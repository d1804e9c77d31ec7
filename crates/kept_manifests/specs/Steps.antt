-- The steps in which stored releases are read and written: helpers of the proofs, which nobody needs to believe.
use Rattle.std.specs.Prelude.{ℕ, ◌==◌, ◌&&◌, not, nat_lt, Bool, List, replicate, slice_get, Option, Some, None, is_none, if◌then◌else◌}
use Rattle.std.specs.List.{list_any}
use Rattle.std.specs.Option.{option_map_or}
use Rattle.component_package.specs.declared.manifest.Entry.{Entry}
use Rattle.component_package.specs.packages.ManifestSteps.{fault_of_entry}
use Rattle.component_package.specs.packages.Reading.{list_of}
use Rattle.kept_definitions.specs.Stored.{StoredRelease, placed_bytes, placed_at}

-- whether an entry with its slot may stand behind these entries and slots
abbrev pub is_place : List Entry → List ℕ → Entry → ℕ → Bool
is_place entries slots e slot = is_none (fault_of_entry entries e) && nat_lt slot 16 && not (list_any (λ s. s == slot) slots)

-- an entry of a side that may not stand behind those before it
abbrev pub place_fault : List ℕ → ℕ → Option ℕ
place_fault b i =
    let p = placed_at b i in
    if is_place (list_of (λ k. (placed_at b k).entry) i) (list_of (λ k. (placed_at b k).slot) i) p.entry p.slot then None else Some i

-- what stands in place i of a side: an entry with its slot and its mark, or zeros
abbrev pub block_of : StoredRelease → ℕ → List ℕ
block_of m i = option_map_or placed_bytes (slice_get m.placed i) (replicate 64 0)
