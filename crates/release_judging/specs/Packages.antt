-- Packages that rows gave for parts.
use Rattle.std.specs.Prelude.{List, [], ◌∷◌, ℕ}
use Rattle.release_rows.specs.declared.part.Numbered.{Numbered}
use Rattle.release_rows.specs.Change.{IsPackageOf}

-- a package of each part, in their order
abbrev pub ArePackagesOf : List Numbered → List (List ℕ) → Type 0
ArePackagesOf [] [] = Unit {0}
ArePackagesOf [] (b ∷ bs) = ⊥
ArePackagesOf (p ∷ ps) [] = ⊥
ArePackagesOf (p ∷ ps) (b ∷ bs) = IsPackageOf p.component p.version b × ArePackagesOf ps bs
