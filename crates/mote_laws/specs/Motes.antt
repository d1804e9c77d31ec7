-- A mote's parts stand for one mote of the machine.
use Rattle.std.specs.Prelude.{◌≡◌}
use Rattle.component_package.specs.mote.Sides.{Parts}
use Rattle.component_package.specs.mote.Sound.{IsSound}
use Rattle.component_package.specs.mote.Machine.{Mote}
use Rattle.component_package.specs.mote.Headline.{StandsFor}
use Rattle.mote_laws.specs.Runs.{IsRising}

-- Parts stand for one mote at most, and sound ones for one, whose incoming release, if any, is above the current one.
pub record PartsStandForOne : Type 0 where
  pub one : (p : Parts) (s t : Mote) → StandsFor p s → StandsFor p t → s ≡ t
  pub some : (p : Parts) → IsSound p → (s : Mote) × StandsFor p s
  pub rising : (p : Parts) (s : Mote) → IsSound p → StandsFor p s → IsRising s
