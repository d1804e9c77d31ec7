-- What the rules say of a release and of an acknowledgement, the key apart: what it does, or why it is refused. The tests come in the order in which they stand here.
use Rattle.std.specs.Prelude.{ℕ, ◌+◌, ◌==◌, ◌&&◌, not, nat_lt, nat_le, Bool, true, pos, is_none, List, [], ◌∷◌, map, Option, Some, None, if◌then◌else◌}
use Rattle.std.specs.Option.{option_map}
use Rattle.component_package.specs.packages.Reading.{component_of}
use Rattle.component_package.specs.link.Link.{Cause, link_cause}
use Rattle.release_rows.specs.declared.part.Part.{Part}
use Rattle.release_rows.specs.declared.part.Numbered.{Numbered}
use Rattle.release_rows.specs.declared.change.Effect.TheVariants as effects
use Rattle.release_rows.specs.Tables.{Tables, component_number, release_count, stored_release, acknowledged}
use Rattle.release_rows.specs.Change.{IsSound}
use Rattle.release_rows.specs.Kept.{all_of, packages_of}
use Rattle.release_judging.specs.declared.judged.Judged.{Judged}
use Rattle.release_judging.specs.declared.judged.Judged.TheVariants.{Does, NoRow, Refused}
use Rattle.release_judging.specs.Faults.{number_of_cause, cause_values}
use Rattle.std.specs.List.{list_any}

-- no two of these are the same
abbrev pub are_distinct : List ℕ → Bool
are_distinct [] = true
are_distinct (n ∷ ns) = not (list_any (λ m. m == n) ns) && are_distinct ns

-- ---- a release

-- a part with its component's number
abbrev pub numbered_part : Tables → Part → Option Numbered
numbered_part t p = option_map (λ c. record { component = c; version = p.version }) (component_number t p.component)

-- these parts with numbers, where each component is there
abbrev pub numbered_parts : Tables → List Part → Option (List Numbered)
numbered_parts t parts = all_of (map (numbered_part t) parts)

-- a release of a set that nothing refuses: the mote's next
abbrev pub judged_set : Tables → List ℕ → List Numbered → Option Cause → Judged
judged_set t mote parts (Some c) = Refused (300 + number_of_cause c) (cause_values c)
judged_set t mote parts None =
    if nat_le 4294967295 (release_count t mote) then Refused 54 []
    else Does (effects.Release mote (release_count t mote + 1) parts)

abbrev pub judged_packages : Tables → List ℕ → List Numbered → Option (List (List ℕ)) → Judged
judged_packages t mote parts None = NoRow
judged_packages t mote parts (Some set) = judged_set t mote parts (link_cause (map component_of set))

abbrev pub judged_parts : Tables → List ℕ → Option (List Numbered) → Judged
judged_parts t mote None = NoRow
judged_parts t mote (Some parts) =
    if are_distinct (map (λ p. p.component) parts) then judged_packages t mote parts (packages_of t parts) else NoRow

-- each part is there and no component stands twice, then what refuses the set, then room for releases
abbrev pub judged_release : Tables → List ℕ → List Part → Judged
judged_release t mote parts = judged_parts t mote (numbered_parts t parts)

-- ---- an acknowledgement

-- the release is there, and isn't below the one that the mote said before
abbrev pub judged_ack : Tables → List ℕ → ℕ → Judged
judged_ack t mote number =
    if is_none (stored_release t mote number) then NoRow
    else if nat_lt number (acknowledged t mote) then Refused 55 (pos (acknowledged t mote) ∷ [])
    else Does (effects.Ack mote number)

-- what is to be done can be done to every table
abbrev pub IsSoundly : Judged → Type 0
IsSoundly (Does effect) = IsSound effect
IsSoundly NoRow = Unit {0}
IsSoundly (Refused number values) = Unit {0}
