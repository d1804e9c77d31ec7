-- The pages of an image, as the areas give them.
use Rattle.std.specs.Prelude.{◌≡◌, ℕ, ◌+◌, ◌-◌, ◌*◌, true, not, ◌==◌, List, ◌++◌, length, map, replicate, slice_range, Option, Some, is_some}
use Rattle.std.specs.List.{filter, find, list_any, range_with_len, AllByRecursion}
use Rattle.std.specs.Option.{option_map}
use Rattle.avr_reloc.specs.declared.fixup.Fixup.{Fixup}
use Rattle.avr_reloc.specs.Field.{AreBytes}
use Rattle.avr_reloc.specs.Fixups.{ArePut, CanBePut}
use Rattle.component_package.specs.declared.part.Site.{Site}
use Rattle.component_package.specs.declared.part.Export.{Export}
use Rattle.component_package.specs.declared.limits.TheConstants.{IMAGE_BYTES}
use Rattle.component_package.specs.declared.areas.TheConstants.{IMAGE_PAGES}
use Rattle.component_package.specs.packages.Component.{Component}
use Rattle.component_package.specs.link.Link.{fixup_with, sites_of, plain_of, base_of_place, definition_of, IsImage}
use Rattle.component_package.specs.link.Areas.{MergedSymbol, SymbolsRise}

-- ---- the table of a set

abbrev pub merged : List Component → (ℕ × Export) → MergedSymbol
merged set x = record { symbol = x.1.symbol; exporter = x.0; place = x.1.place; address = base_of_place set x.0 x.1.place + x.1.value }

-- a record for each symbol that the set exports, by rising symbol, of the export that gives the address
pub record IsTableOf (set : List Component) (table : List MergedSymbol) : Type 0 where
  pub rise : SymbolsRise 16 table
  pub each : AllByRecursion (λ r. option_map (merged set) (definition_of set r.symbol) ≡ Some r) table
  pub whole : (s : ℕ) → is_some (definition_of set s) ≡ true → list_any (λ r. r.symbol == s) table ≡ true

abbrev pub address_in : List MergedSymbol → ℕ → Option ℕ
address_in table s = option_map (λ r. r.address) (find (λ r. r.symbol == s) table)

-- ---- the list of a set and a table

-- by rising image offset: all code, then all data
abbrev pub in_image_order : List Site → List Site
in_image_order xs = filter (λ x. not x.reloc.in_init) xs ++ filter (λ x. x.reloc.in_init) xs

abbrev pub listed : List Component → List MergedSymbol → List Fixup
listed set table = map (fixup_with (address_in table) set) (in_image_order (sites_of set))

-- ---- pages

-- 0xFF behind the bytes, up to 480 pages
abbrev pub padded : List ℕ → List ℕ
padded b = b ++ replicate (IMAGE_BYTES - length b) 255

abbrev pub page_in : List ℕ → ℕ → List ℕ
page_in whole p = slice_range whole (256 * p) (256 * p + 256)

abbrev pub cut : List ℕ → List (List ℕ)
cut whole = map (page_in whole) (range_with_len 0 IMAGE_PAGES)

-- a list fits a set: each of its fields lies in the set's code and data and can hold its value
abbrev pub Fits : List Component → List Fixup → Type 0
Fits set xs = AllByRecursion (CanBePut (length (plain_of set))) xs

-- the bytes of all pages: the package's, with these fields patched, and 0xFF behind
abbrev pub ArePatched : List Fixup → List ℕ → List ℕ → Type 0
ArePatched xs plain whole = ArePut xs (padded plain) whole

-- the pages of a set, with the fields of a list patched
pub record IsPatched (set : List Component) (xs : List Fixup) (pages : List (List ℕ)) : Type 0 where
  pub whole : List ℕ
  pub bytes : AreBytes whole
  pub put : ArePatched xs (plain_of set) whole
  pub are : pages ≡ cut whole

-- the pages of a set: its image, followed by 0xFF
pub record IsPages (set : List Component) (pages : List (List ℕ)) : Type 0 where
  pub image : List ℕ
  pub is : IsImage set image
  pub are : pages ≡ cut (padded image)
