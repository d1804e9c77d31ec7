-- Laws of images, tables, lists and pages, each proved on a function of src/lib.rt.
use Rattle.std.specs.Prelude.{◌≡◌, ℕ, ◌≤◌, List, length, Some, None}
use Rattle.std.specs.List.{AllByRecursion, AllPairs}
use Rattle.avr_reloc.specs.declared.fixup.Fixup.{Fixup}
use Rattle.avr_reloc.specs.Fixups.{AreApart}
use Rattle.component_package.specs.declared.limits.TheConstants.{SET_RELOCATIONS}
use Rattle.component_package.specs.packages.Component.{Component}
use Rattle.component_package.specs.link.Link.{Cause, IsLate, link_cause, room_cause, rooms_of, fixups_of, IsImage}
use Rattle.component_package.specs.link.Areas.{MergedSymbol, IsSymbol, table_bytes, Tells, FieldsRise, list_bytes, Lists}
use Rattle.component_package.specs.link.Pages.{IsTableOf, listed, Fits, IsPatched, IsPages}
use Rattle.component_package.specs.link.Sets.{IsSet}

-- ---- Images

-- the fields of a set share no byte
abbrev pub FieldsAreApart : Type 0
FieldsAreApart = (set : List Component) → IsSet set → AllPairs AreApart (fixups_of set)

-- an image of the set
pub record SomeImage (set : List Component) : Type 0 where
  pub image : List ℕ
  pub is : IsImage set image

-- a set has exactly one image where it has no cause, and none where it has one
pub record ImageExistsOnce : Type 0 where
  pub exists : (set : List Component) → IsSet set → link_cause set ≡ None → SomeImage set
  pub one : (set : List Component) (a b : List ℕ) → IsImage set a → IsImage set b → a ≡ b
  pub none : (set : List Component) (cause : Cause) (b : List ℕ) → link_cause set ≡ Some cause → IsImage set b → ⊥

-- ---- Tables

-- a table of the set's own
pub record SomeTable (set : List Component) : Type 0 where
  pub table : List MergedSymbol
  pub is : IsTableOf set table

-- a set has exactly one table of its own
pub record TableExistsOnce : Type 0 where
  pub exists : (set : List Component) → IsSet set → SomeTable set
  pub one : (set : List Component) (t u : List MergedSymbol) → IsTableOf set t → IsTableOf set u → t ≡ u

-- where a set has room, its own table's numbers have room in an area's records
abbrev pub TableHasRoom : Type 0
TableHasRoom =
    (set : List Component) (table : List MergedSymbol) → IsSet set → room_cause (rooms_of set) ≡ None → IsTableOf set table
    → AllByRecursion IsSymbol table

-- the own table of a set that nothing refuses, but for an undefined symbol or a field out of range, is a symbol table
abbrev pub OwnTableTells : Type 0
OwnTableTells = (set : List Component) (table : List MergedSymbol) → IsSet set → IsLate (link_cause set) → IsTableOf set table → Tells (table_bytes table) table

-- ---- Lists

-- no field of the list of a set and any table begins before the former one's end
abbrev pub ListRises : Type 0
ListRises = (set : List Component) (table : List MergedSymbol) → IsSet set → FieldsRise 0 (listed set table)

-- where a set has room, the list of it and of any table whose numbers have room is a relocation list, if it is not too long
abbrev pub ListHasRoom : Type 0
ListHasRoom =
    (set : List Component) (table : List MergedSymbol) → IsSet set → room_cause (rooms_of set) ≡ None → AllByRecursion IsSymbol table
    → length (listed set table) ≤ SET_RELOCATIONS → Lists (list_bytes (listed set table)) (listed set table)

-- the list of a set without a cause and of its own table is a relocation list, and fits the set
pub record OwnListFits : Type 0 where
  pub lists : (set : List Component) (table : List MergedSymbol) → IsSet set → link_cause set ≡ None → IsTableOf set table
      → Lists (list_bytes (listed set table)) (listed set table)
  pub fits : (set : List Component) (table : List MergedSymbol) → IsSet set → link_cause set ≡ None → IsTableOf set table
      → Fits set (listed set table)

-- ---- Pages

-- pages of the set, patched from a list
pub record SomePages (set : List Component) (xs : List Fixup) : Type 0 where
  pub pages : List (List ℕ)
  pub are : IsPatched set xs pages

-- a relocation list that fits a set has its pages, which are one list of pages
pub record FittingListHasPages : Type 0 where
  pub exist : (set : List Component) (area : List ℕ) (xs : List Fixup) → IsSet set → Lists area xs
      → Fits set xs → SomePages set xs
  pub one : (set : List Component) (xs : List Fixup) (p q : List (List ℕ)) → IsPatched set xs p → IsPatched set xs q → p ≡ q

-- for a set without a cause and its own table, the pages patched from its list are its image's pages, and no others are
pub record OwnListGivesPages : Type 0 where
  pub patched : (set : List Component) (table : List MergedSymbol) (pages : List (List ℕ)) → IsTableOf set table → IsPages set pages
      → IsPatched set (listed set table) pages
  pub are : (set : List Component) (table : List MergedSymbol) (pages : List (List ℕ)) → IsSet set → link_cause set ≡ None
      → IsTableOf set table → IsPatched set (listed set table) pages → IsPages set pages
