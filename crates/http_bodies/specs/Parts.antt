-- The parts of a release: names of components with versions.
use Rattle.std.specs.Prelude.{◌≤◌, ℕ, List, [], ◌∷◌, length, map, Bool, true, not, ◌&&◌, ◌==◌, nat_le, nat_lt, if◌then◌else◌, Option, Some, None, option_map, option_and_then}
use Rattle.std.specs.List.{list_any, AllPass, IsDistinct}
use Rattle.std.specs.Str.{bytes_eq}
use Rattle.serde_json.specs.Data.{Data, array, Items, no_items, item}
use Rattle.serde_json.specs.Find.{as_str, as_array}
use Rattle.serde_json.specs.Events.{items_len}
use Rattle.http_bodies.specs.declared.part.Part.{Part}
use Rattle.http_bodies.specs.Json.{json_of, number_up_to}
use Rattle.http_bodies.specs.Names.{is_name}

-- a text that is a name
abbrev pub name_of : Data → Option (List ℕ)
name_of d = option_and_then (λ text. if is_name text then Some text else None) (as_str d)

-- a part, where there are a name and a version
abbrev pub part_from : Option (List ℕ) → Option ℕ → Option Part
part_from name version = option_and_then (λ n. option_map (λ v. record { component = n; version = v }) version) name

-- a pair `[name, version]`, with a version from 0 to 65,535
abbrev pub part_of : Data → Option Part
part_of (array (item name (item version no_items))) = part_from (name_of name) (number_up_to 65535 version)
part_of _ = None

-- the parts that items are, where each is one
abbrev pub all_parts : Items → Option (List Part)
all_parts no_items = Some []
all_parts (item d ds) = option_and_then (λ p. option_map (λ ps. p ∷ ps) (all_parts ds)) (part_of d)

-- no name stands twice
abbrev pub names_differ : List Part → Bool
names_differ [] = true
names_differ (p ∷ ps) = not (list_any (λ q. bytes_eq p.component q.component) ps) && names_differ ps

-- the parts, where no name stands twice
abbrev pub different : List Part → Option (List Part)
different parts = if names_differ parts then Some parts else None

-- not none and not more than 16
abbrev pub is_short : ℕ → Bool
is_short count = not (count == 0) && not (nat_lt 16 count)

-- the parts of a list of 1 to 16 pairs with different names
abbrev pub listed : Items → Option (List Part)
listed pairs = if is_short (items_len pairs) then option_and_then different (all_parts pairs) else None

abbrev pub parts_of : Data → Option (List Part)
parts_of d = option_and_then listed (as_array d)

-- the parts that a body asks a release of
abbrev pub parts_in : List ℕ → Option (List Part)
parts_in body = option_and_then parts_of (json_of body)

-- a name, and a version from 0 to 65,535
abbrev pub is_part : Part → Bool
is_part p = is_name p.component && nat_le p.version 65535

-- What a release may be asked of: the parts in the order in which they are linked.
pub record AreParts (parts : List Part) : Type 0 where
  pub some : 1 ≤ length parts
  pub few : length parts ≤ 16
  pub each : AllPass is_part parts
  pub different_names : IsDistinct bytes_eq (map (λ p. p.component) parts)
