-- The relocations that are still to come, in the image's order.
use Rattle.std.specs.Prelude.{◌≡◌, ℕ, ◌+◌, ◌-◌, ◌*◌, ◌^◌, ◌<◌, ◌≤◌, Bool, not, List, [], ◌∷◌, ◌++◌, drop, Option, Some, None, if◌then◌else◌}
use Rattle.std.specs.List.{filter, flat_map, enumerate_from}
use Rattle.component_package.specs.declared.part.Site.{Site}
use Rattle.component_package.specs.packages.Component.{Component}
use Rattle.component_package.specs.link.Link.{sites_in, sites_of}
use Rattle.kept_store.specs.declared.set.StoredSet.{StoredSet}
use Rattle.kept_store.specs.Sets.{header_at}
use Rattle.kept_relocs.specs.declared.order.Cursor.{Cursor}

-- the relocations from relocation `index` of component k on, by component
abbrev pub sites_after : List Component → ℕ → ℕ → List Site
sites_after set k index = drop index (flat_map (λ c. sites_in c.0 c.1) (drop k (enumerate_from 0 set)))

-- those of code, and those of data
abbrev pub in_code : List Site → List Site
in_code xs = filter (λ x. not x.reloc.in_init) xs

abbrev pub in_data : List Site → List Site
in_data xs = filter (λ x. x.reloc.in_init) xs

-- what is to come: the rest of the code's and then all of the data's, or the rest of the data's
abbrev pub rest_at : List Component → Bool → ℕ → ℕ → List Site
rest_at set in_init k index =
    if in_init then in_data (sites_after set k index) else in_code (sites_after set k index) ++ in_data (sites_of set)

abbrev pub rest_of : List Component → Cursor → List Site
rest_of set c = rest_at set c.in_init c.component c.index

-- a cursor stands at a relocation of its component, or behind the last
abbrev pub IsWithin : StoredSet → Cursor → Type 0
IsWithin set c = c.component < set.slots.manifest.count → c.index ≤ (header_at set c.component).relocs

-- the next of these, and what is left of them
abbrev pub IsNext : Option Site → List Site → List Site → Type 0
IsNext None old new = (old ≡ []) × (new ≡ [])
IsNext (Some x) old new = old ≡ x ∷ new

-- the same where none may be found yet
abbrev pub IsStep : Option Site → List Site → List Site → Type 0
IsStep None old new = old ≡ new
IsStep (Some x) old new = old ≡ x ∷ new

-- how many steps a cursor has before it at most
abbrev pub steps_left : Cursor → ℕ
steps_left c = (if c.in_init then 0 else 2 ^ 21) + (16 - c.component) * 65536 + (65536 - c.index)
