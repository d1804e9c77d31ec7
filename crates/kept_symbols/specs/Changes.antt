-- What a merge may change, and how often it programs a page.
use Rattle.std.specs.Prelude.{◌≡◌, ◌≢◌, Bool, true, false}
use Rattle.flash_pages.specs.State.{State, Place, OnlyPages, ext_pages, page_at}
use Rattle.flash_pages.specs.Board.{View, Told}
use Rattle.kept_definitions.specs.Sides.{parts_of}
use Rattle.kept_symbols.specs.Stored.{symbol_area}

-- the pages of merged symbols
abbrev pub symbol_pages : Place → Bool
symbol_pages = ext_pages 18 49

-- only the area of merged symbols may have changed
pub record OnlySymbols (s x : State) : Type 0 where
  pub pages : OnlyPages symbol_pages s x
  pub parts : parts_of x.prog x.ext ≡ record (parts_of s.prog s.ext) { symbols = symbol_area x }

-- where a page is programmed: where it is to hold other bytes, or, where a call of the board failed,
-- in the area at most
abbrev pub IsWorn : Bool → View → State → Place → Type 0
IsWorn true new s place = symbol_pages place ≡ true
IsWorn false new s place = Told new (λ x. page_at s place ≢ page_at x place)
