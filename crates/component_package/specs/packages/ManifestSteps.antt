-- The steps in which manifests are read and written: helpers of the proofs, which nobody needs to believe.
use Rattle.std.specs.Prelude.{ℕ, ◌+◌, ◌*◌, ◌==◌, ◌||◌, ◌&&◌, not, nat_lt, Bool, List, length, replicate, slice_get, Option, Some, None, is_none, if◌then◌else◌}
use Rattle.std.specs.List.{list_any}
use Rattle.std.specs.Option.{option_map_or}
use Rattle.component_package.specs.declared.manifest.Entry.{Entry}
use Rattle.component_package.specs.declared.manifest.ManifestFault.{ManifestFault}
use Rattle.component_package.specs.declared.manifest.ManifestFault.TheVariants.{Short, Count, Repeated, Length}
use Rattle.component_package.specs.declared.limits.TheConstants.{PACKAGE_BYTES}
use Rattle.component_package.specs.packages.Manifest.{StoredRelease, manifest_count, placed_bytes, placed_at}
use Rattle.component_package.specs.packages.Reading.{list_of}

-- what is wrong with a manifest's count or its length
abbrev pub size_fault : List ℕ → Option ManifestFault
size_fault b =
    let count = manifest_count b in
    if nat_lt (length b) 5 then Some (Short (length b))
    else if count == 0 || nat_lt 16 count then Some (Count count)
    else if not (length b == 5 + 38 * count) then Some (Short (length b))
    else None

-- what is wrong with an entry that comes behind these
abbrev pub fault_of_entry : List Entry → Entry → Option ManifestFault
fault_of_entry before e =
    if list_any (λ f. f.component == e.component) before then Some (Repeated e.component)
    else if nat_lt e.length 32 || nat_lt PACKAGE_BYTES e.length then Some (Length e.length)
    else None

-- whether an entry with its slot may stand behind these entries and slots
abbrev pub is_place : List Entry → List ℕ → Entry → ℕ → Bool
is_place entries slots e slot = is_none (fault_of_entry entries e) && nat_lt slot 32 && not (list_any (λ s. s == slot) slots)

-- an entry of a side that may not stand behind those before it
abbrev pub place_fault : List ℕ → ℕ → Option ℕ
place_fault b i =
    let p = placed_at b i in
    if is_place (list_of (λ k. (placed_at b k).entry) i) (list_of (λ k. (placed_at b k).slot) i) p.entry p.slot then None else Some i

-- what stands in place i of a side: an entry with its slot, or zeros
abbrev pub block_of : StoredRelease → ℕ → List ℕ
block_of m i = option_map_or placed_bytes (slice_get m.placed i) (replicate 64 0)
