-- An area whose pages are written one after another, each at most once.
use Rattle.std.specs.Prelude.{◌≡◌, ◌≢◌, ℕ, ◌+◌, ◌*◌, ◌<◌, IsTrue, List, [], length, slice_index_or, slice_range, map}
use Rattle.std.specs.List.{range_with_len}
use Rattle.flash_pages.specs.State.{State, Place, Ext, page_at, OnlyPages, ext_pages}
use Rattle.kept_definitions.specs.Sides.{parts_of}
use Rattle.kept_relocs.specs.List.{list_area}

-- the pages of the area from `first` on that hold other bytes than these
pub record IsOther (first : ℕ) (pages : List (List ℕ)) (s : State) (place : Place) : Type 0 where
  pub page : ℕ
  pub within : page < length pages
  pub is : place ≡ Ext (first + page)
  pub differs : page_at s place ≢ slice_index_or pages page []

-- a page of external flash from the first to the last of these
abbrev pub IsIn : ℕ → ℕ → Place → Type 0
IsIn first last place = IsTrue (ext_pages first last place)

-- bytes as pages
abbrev pub in_pages : ℕ → List ℕ → List (List ℕ)
in_pages count bytes = map (λ p. slice_range bytes (256 * p) (256 * p + 256)) (range_with_len 0 count)

-- only the area of the relocation list may have changed
pub record OnlyList (s x : State) : Type 0 where
  pub pages : OnlyPages (ext_pages 50 305) s x
  pub parts : parts_of x.prog x.ext ≡ record (parts_of s.prog s.ext) { relocs = list_area x }
