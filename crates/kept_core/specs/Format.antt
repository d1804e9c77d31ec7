-- What `format` does, and what a cut in it may leave.
use Rattle.std.specs.Prelude.{◌≡◌, ◌⊎◌, ℕ, List, ◌++◌, take, drop, slice_index, codes, Some}
use Rattle.flash_pages.specs.State.{State, Ext, MayHold, always}
use Rattle.flash_pages.specs.Board.{View}
use Rattle.external_flash.specs.Gates.{IsShut, open_page, closed_page}
use Rattle.external_flash.specs.declared.Gate.TheVariants.{Fmt}
use Rattle.kept_definitions.specs.Sound.{IsSound}
use Rattle.mote_laws.specs.Formatted.{blank_prog}
use Rattle.kept_laws.specs.Formatted.{formatted_ext, formatted_mote}
use Rattle.kept_journal.specs.Steps.{parts, Stands}

-- what is sent once the board is formatted
abbrev pub formatted_line : List ℕ
formatted_line = codes "formatted\n"

-- a formatted board, but for bytes 1 to 255 of external page 0
pub record IsFormatted (x : State) : Type 0 where
  pub page : List ℕ
  pub opens : slice_index page 0 ≡ 165
  pub prog : x.prog ≡ blank_prog
  pub ext : x.ext ≡ formatted_ext page

-- the three forms of states that a cut may leave of s: Fmt is closed; or page 0 alone is other than in s; or it is formatted
abbrev pub HasForm : State → State → Type 0
HasForm s x = IsShut Fmt x ⊎ (MayHold always (Ext 0) s x ⊎ IsFormatted x)

-- What a cut may leave of s. If s was sound, the state is sound or has Fmt closed. Something was sent only once it was formatted, and that line alone.
pub record FormatLeaves (s x : State) : Type 0 where
  pub form : HasForm s x
  pub sound : IsSound (parts s) → IsSound (parts x) ⊎ IsShut Fmt x
  pub sent : (x.sent ≡ s.sent) ⊎ IsFormatted x
  pub owed : List ℕ
  pub line : s.sent ++ formatted_line ≡ x.sent ++ owed

-- it was done: program flash is 0xFF, Fmt is open, side A holds an empty release, all other pages of external flash are zeros, and the line was sent; so it is sound, with an empty release
pub record HasFormatted (s : State) (v : View) : Type 0 where
  pub end : State
  pub told : v.state ≡ Some end
  pub prog : end.prog ≡ blank_prog
  pub ext : end.ext ≡ formatted_ext open_page
  pub sent : end.sent ≡ s.sent ++ formatted_line
  pub stands : Stands end formatted_mote

-- ---- parts of the work

-- the first n of these pages, and then those that were there
abbrev pub filled_to : ℕ → List (List ℕ) → List (List ℕ) → List (List ℕ)
filled_to n these pages = take n these ++ drop n pages

-- the first n pages of external flash are an empty board's, with all gates closed
abbrev pub cleared : ℕ → State → State
cleared n s = record s { ext = filled_to n (formatted_ext closed_page) s.ext }

-- the first n program pages are 0xFF
abbrev pub blanked : ℕ → State → State
blanked n s = record s { prog = filled_to n blank_prog s.prog }

-- all of them are, and Fmt is open
abbrev pub emptied : State → State
emptied s = record s { prog = blank_prog; ext = formatted_ext open_page }

-- what a cut may leave while external flash is cleared
pub record Clears (s x : State) : Type 0 where
  pub form : IsShut Fmt x ⊎ MayHold always (Ext 0) s x
  pub sent : x.sent ≡ s.sent

-- program flash alone may be other than in s
pub record OnlyProg (s x : State) : Type 0 where
  pub ext : x.ext ≡ s.ext
  pub sent : x.sent ≡ s.sent
