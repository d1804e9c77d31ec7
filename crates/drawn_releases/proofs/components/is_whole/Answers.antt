use Rattle.std.proofs.Common.{subst, sym}
use Rattle.component_package.specs.packages.Grammar.{IsComponent}
use Rattle.drawn_releases.proofs.Made.{is_component}
use Rattle.drawn_releases.proofs.components.is_whole.Goals as goal

pub returns : goal.returns
returns c x is = subst IsComponent (sym is) (is_component c.args._component c.args._version x c.requires.some c.requires.known c.ranges._version.fits)
