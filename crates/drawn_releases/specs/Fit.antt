-- Drawn releases fit the frames of an update.
use Rattle.std.specs.Prelude.{ℕ, ◌≤◌, length, All}
use Rattle.drawn_releases.specs.Generator.{release_drawn}

-- whatever the number, a release has at most 16 packages, of at most 9,984 bytes each
pub record ReleasesFit : Type 0 where
  pub few : (number r : ℕ) → length (release_drawn number r).packages ≤ 16
  pub short : (number r : ℕ) → All (λ d. length d.bytes ≤ 9984) (release_drawn number r).packages
