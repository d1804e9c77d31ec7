-- Drawn releases.
use Rattle.std.specs.Prelude.{◌≡◌, ℕ}
use Rattle.drawn_releases.specs.Generator.{Drawn, release_drawn}

-- it was drawn from a number, after so many others
pub record IsRelease (d : Drawn) : Type 0 where
  pub number : ℕ
  pub count : ℕ
  pub is : d ≡ release_drawn number count
