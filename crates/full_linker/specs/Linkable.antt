-- What may be linked.
use Rattle.std.specs.Prelude.{◌≡◌, ℕ, List, map, None}
use Rattle.std.specs.List.{All}
use Rattle.component_package.specs.packages.Reading.{package_fault, component_of}
use Rattle.component_package.specs.link.Sets.{IsSet}

-- packages without a fault whose components are a set
pub record AreLinkable (set : List (List ℕ)) : Type 0 where
  pub packages : All (λ b. package_fault b ≡ None) set
  pub components : IsSet (map component_of set)
