-- Sets of components: what may be linked.
use Rattle.std.specs.Prelude.{◌≤◌, List, length, map}
use Rattle.std.specs.List.{AllByRecursion}
use Rattle.component_package.specs.packages.Component.{Component}
use Rattle.component_package.specs.packages.Grammar.{IsComponent}
use Rattle.component_package.specs.packages.Manifest.{AreDistinct}

-- at most 16 components that packages can hold, with different numbers
pub record IsSet (set : List Component) : Type 0 where
  pub few : length set ≤ 16
  pub components : AllByRecursion IsComponent set
  pub different : AreDistinct (map (λ c. c.component) set)
