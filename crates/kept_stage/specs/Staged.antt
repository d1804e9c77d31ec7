-- The pages of a set that a board holds, patched from the relocation list in its area.
use Rattle.std.specs.Prelude.{◌≡◌, ℕ, List, Some}
use Rattle.flash_pages.specs.State.{State, OnlyPages, ext_pages}
use Rattle.flash_pages.specs.Board.{View}
use Rattle.avr_reloc.specs.declared.fixup.Fixup.{Fixup}
use Rattle.component_package.specs.declared.areas.TheConstants.{STAGED}
use Rattle.component_package.specs.packages.Component.{Component}
use Rattle.component_package.specs.link.Areas.{Lists}
use Rattle.component_package.specs.link.Pages.{Fits, IsPatched}
use Rattle.component_package.specs.mote.Sides.{pages_from}
use Rattle.kept_definitions.specs.Sides.{parts_of}
use Rattle.kept_store.specs.declared.set.StoredSet.{StoredSet}
use Rattle.kept_store.specs.Sets.{HoldsSet}
use Rattle.kept_relocs.specs.List.{list_area}

-- the pages of the staged image
abbrev pub staged_pages : State → List (List ℕ)
staged_pages s = pages_from STAGED 480 s.ext

-- the board holds the set, the area holds a relocation list that fits it, and these are the set's pages with the list's fields patched
pub record ArePagesOf (s : State) (set : StoredSet) (pages : List (List ℕ)) : Type 0 where
  pub components : List Component
  pub list : List Fixup
  pub held : HoldsSet s set components
  pub lists : Lists (list_area s) list
  pub fits : Fits components list
  pub patched : IsPatched components list pages

-- the board's staged image is these pages
pub record HasStaged (v : View) (pages : List (List ℕ)) : Type 0 where
  pub state : State
  pub told : v.state ≡ Some state
  pub are : staged_pages state ≡ pages

-- only the staged image may have changed: so program flash, inbox and tables hold what they held, and with them each set
pub record OnlyStaged (s x : State) : Type 0 where
  pub pages : OnlyPages (ext_pages 306 785) s x
  pub parts : parts_of x.prog x.ext ≡ record (parts_of s.prog s.ext) { staged = staged_pages x }
