-- A board that was just formatted in layout 2.
use Rattle.std.specs.Prelude.{◌≡◌, ℕ, false, List, [], ◌∷◌, ◌++◌, replicate, slice_index, None}
use Rattle.kept_definitions.specs.Sides.{parts_of}
use Rattle.kept_definitions.specs.Sound.{IsSound}
use Rattle.kept_definitions.specs.Machine.{Mote}
use Rattle.kept_definitions.specs.Headline.{StandsFor}
use Rattle.mote_laws.specs.Formatted.{blank_prog}

-- page 0 of the empty stored release
abbrev pub empty_page : List ℕ
empty_page = 0 ∷ 0 ∷ 0 ∷ 0 ∷ 0 ∷ 2 ∷ replicate 250 0

-- page 0, seven pages of zeros, the empty release's, and zeros
unfoldable pub formatted_ext : List ℕ → List (List ℕ)
formatted_ext page = (page ∷ replicate 7 (replicate 256 0) ++ empty_page ∷ []) ++ replicate 2039 (replicate 256 0)

-- the mote with the empty release, release 0, its empty set, and an inbox of zeros
unfoldable pub formatted_mote : Mote
formatted_mote = record {
  current = record { release = record { number = 0; placed = [] }; set = [] };
  incoming = None;
  inbox = replicate 16 (replicate 9984 0);
  linked = false;
  standing = false;
}

-- A formatted board, with any page 0 that opens Fmt, is sound, and stands for that mote.
pub record FormattedIsSound : Type 0 where
  pub sound : (page : List ℕ) → slice_index page 0 ≡ 165 → IsSound (parts_of blank_prog (formatted_ext page))
  pub stands : (page : List ℕ) → slice_index page 0 ≡ 165 → StandsFor (parts_of blank_prog (formatted_ext page)) formatted_mote
