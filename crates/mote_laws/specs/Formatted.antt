-- A board that was just formatted.
use Rattle.std.specs.Prelude.{◌≡◌, ℕ, false, List, [], ◌∷◌, replicate, slice_index, None}
use Rattle.component_package.specs.mote.Sides.{parts_of}
use Rattle.component_package.specs.mote.Sound.{IsSound}
use Rattle.component_package.specs.mote.Machine.{Mote}
use Rattle.component_package.specs.mote.Headline.{StandsFor}

-- every program page is 0xFF
unfoldable pub blank_prog : List (List ℕ)
blank_prog = replicate 480 (replicate 256 255)

-- page 0, and 2,047 pages of zeros
unfoldable pub formatted_ext : List ℕ → List (List ℕ)
formatted_ext page = page ∷ replicate 2047 (replicate 256 0)

-- the mote with the empty release, release 0, and slots of zeros
unfoldable pub formatted_mote : Mote
formatted_mote = record { current = record { number = 0; placed = [] }; incoming = None; store = replicate 32 (replicate 9984 0); linked = false; standing = false }

-- A formatted board, with any page 0 that opens Fmt, is sound, and stands for that mote.
pub record FormattedIsSound : Type 0 where
  pub sound : (page : List ℕ) → slice_index page 0 ≡ 165 → IsSound (parts_of blank_prog (formatted_ext page))
  pub stands : (page : List ℕ) → slice_index page 0 ≡ 165 → StandsFor (parts_of blank_prog (formatted_ext page)) formatted_mote
