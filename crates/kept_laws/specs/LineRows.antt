-- What the headline says of the lines `committed N` and `booted N`, with the bytes of the lines spelled out.
use Rattle.std.specs.Prelude.{◌≡◌, ℕ, ◌≤◌, List, [], ◌∷◌, ◌++◌, codes, decimal, Contains}
use Rattle.component_package.specs.link.Pages.{IsPages}
use Rattle.component_package.specs.mote.Headline.{Shown}
use Rattle.kept_definitions.specs.Kept.{Chosen}
use Rattle.kept_definitions.specs.Sound.{IsSound}
use Rattle.kept_definitions.specs.Headline.{shown_parts, Chooses, IsKept}

-- words, a number and a line feed
abbrev pub number_line : List ℕ → ℕ → List ℕ
number_line words n = words ++ (decimal n ++ 10 ∷ [])

pub record LinesCount : Type 0 where
  -- after `committed N`, whatever followed, only release N or a later one boots
  pub committed : (history : List Chosen) (x : Shown) (n : ℕ) (more : List ℕ) (c : Chosen) → IsKept history x (number_line (codes "committed ") n ++ more)
      → Chooses (shown_parts x) c → n ≤ c.release.number
  -- after `booted N` program flash is the image of a release N that was chosen at entry or committed since
  pub booted : (history : List Chosen) (x : Shown) (n : ℕ) → IsKept history x (number_line (codes "booted ") n)
      → (c : Chosen) × Contains history c × (c.release.number ≡ n) × IsPages c.set x.prog
  -- whatever was sent, the mote is sound and boots what was chosen at entry or committed since
  pub always : (history : List Chosen) (x : Shown) (sent : List ℕ) → IsKept history x sent → IsSound (shown_parts x) × ((c : Chosen) × Contains history c × Chooses (shown_parts x) c)
