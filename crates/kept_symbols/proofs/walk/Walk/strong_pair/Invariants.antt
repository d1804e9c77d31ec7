use Rattle.std.proofs.Common.{◌≡◌, List, take}
use Rattle.std.specs.Prelude.{option_to_list}
use Rattle.component_package.specs.packages.Component.{Component}
use Rattle.component_package.specs.link.Link.{exports_of}
use Rattle.component_package.specs.link.Sets.{IsSet}
use Rattle.kept_symbols.specs.Walks.{IsAt}
use Rattle.kept_symbols.proofs.Exports.{strong_in}
use Rattle.kept_symbols.proofs.walk.Walk.strong_pair.Given as goal

abbrev pub invariant-loop-k : goal.invariant-loop-k
invariant-loop-k l = (set : List Component) → IsSet set → IsAt set l.symbol l.self → strong_in l.symbol (exports_of (take l.k set)) ≡ option_to_list l.first
