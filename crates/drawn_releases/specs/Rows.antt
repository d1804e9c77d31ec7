-- Worked draws of number 1. The numbers are those of a program of a few lines in another language.
use Rattle.std.specs.Prelude.{◌≡◌, [], ◌∷◌, length, map, take}
use Rattle.component_package.specs.packages.Component.{spelling}
use Rattle.drawn_releases.specs.Generator.{drawn, after, made, behind_component, release_drawn}

pub record FirstDraws : Type 0 where
  pub draws : drawn 600 1 ∷ drawn 600 (after 1 1) ∷ drawn 600 (after 2 1) ∷ drawn 600 (after 3 1) ∷ [] ≡ 374 ∷ 153 ∷ 396 ∷ 270 ∷ []
  -- component 1 in its first version
  pub count : length (spelling (made 1 1 1)) ≡ 1272
  pub begins : take 48 (spelling (made 1 1 1)) ≡ 70 ∷ 67 ∷ 80 ∷ 49 ∷ 1 ∷ 0 ∷ 1 ∷ 0 ∷ 44 ∷ 3 ∷ 6 ∷ 0 ∷ 0 ∷ 0 ∷ 1 ∷ 0 ∷ 52 ∷ 0 ∷ 0 ∷ 0 ∷ 0 ∷ 0 ∷ 0 ∷ 0 ∷ 0 ∷ 0 ∷ 0 ∷ 0 ∷ 0 ∷ 0 ∷ 0 ∷ 0 ∷ 14 ∷ 148 ∷ 0 ∷ 0 ∷ 204 ∷ 112 ∷ 230 ∷ 170 ∷ 90 ∷ 59 ∷ 243 ∷ 192 ∷ 154 ∷ 90 ∷ 246 ∷ 168 ∷ []
  pub behind : behind_component 1 ≡ 4486616990247202691
  -- the second release: its order, its versions, and its cut
  pub order : map (λ d. d.component) (release_drawn 1 2).packages ≡ 6 ∷ 7 ∷ 8 ∷ 9 ∷ 10 ∷ 11 ∷ 12 ∷ 1 ∷ 2 ∷ 3 ∷ 4 ∷ 5 ∷ []
  pub versions : map (λ d. d.version) (release_drawn 1 2).packages ≡ 1 ∷ 1 ∷ 1 ∷ 1 ∷ 1 ∷ 2 ∷ 1 ∷ 2 ∷ 1 ∷ 1 ∷ 2 ∷ 1 ∷ []
  pub stop : (release_drawn 1 2).stop ≡ 59
  pub fill : (release_drawn 1 2).fill ≡ 148
