-- The image of a release.
use Rattle.std.specs.Prelude.{◌≡◌, ◌≢◌, ℕ, List, map, Option, Some, None}
use Rattle.std.specs.Option.{option_and_then}
use Rattle.component_package.specs.packages.Reading.{component_of}
use Rattle.component_package.specs.link.Link.{link_cause, IsImage}
use Rattle.full_linker.specs.declared.fault.LinkFault.TheVariants.{Memory}
use Rattle.full_linker.specs.Faults.{cause_of}
use Rattle.release_rows.specs.Tables.{Tables, stored_release}
use Rattle.release_rows.specs.Kept.{packages_of}
use Rattle.release_judging.specs.declared.image.ImageAnswer.{ImageAnswer}
use Rattle.release_judging.specs.declared.image.ImageAnswer.TheVariants.{Image, NoRow, Cause}

-- the packages of a release, where it and all of its parts are there
abbrev pub packages_of_release : Tables → List ℕ → ℕ → Option (List (List ℕ))
packages_of_release t mote number = option_and_then (packages_of t) (stored_release t mote number)

-- no row where there are no packages; else their image, or why they have none
abbrev pub IsImageAnswer : Option (List (List ℕ)) → ImageAnswer → Type 0
IsImageAnswer None (Image b) = ⊥
IsImageAnswer None NoRow = Unit {0}
IsImageAnswer None (Cause f) = ⊥
IsImageAnswer (Some set) (Image b) = IsImage (map component_of set) b
IsImageAnswer (Some set) NoRow = ⊥
IsImageAnswer (Some set) (Cause f) = link_cause (map component_of set) ≡ cause_of f

-- a cause is never want of memory
abbrev pub IsCauseAlone : ImageAnswer → Type 0
IsCauseAlone (Image b) = Unit {0}
IsCauseAlone NoRow = Unit {0}
IsCauseAlone (Cause f) = f ≢ Memory
