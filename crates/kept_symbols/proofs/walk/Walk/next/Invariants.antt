use Rattle.std.proofs.Common.{ℕ, ◌<◌, List, take}
use Rattle.std.specs.Prelude.{IfSome}
use Rattle.component_package.specs.packages.Component.{Component}
use Rattle.component_package.specs.link.Link.{exports_of}
use Rattle.component_package.specs.link.Sets.{IsSet}
use Rattle.kept_symbols.specs.Walks.{IsAt, IsFirst}
use Rattle.kept_symbols.proofs.Exports.{pick}
use Rattle.kept_symbols.proofs.walk.Walk.next.Given as goal

abbrev pub invariant-loop-k : goal.invariant-loop-k
invariant-loop-k l = record {
  first : (set : List Component) (low : ℕ) → IsSet set → IsAt set low l.self → IsFirst (λ s. pick s (exports_of (take l.k set))) low l.chosen;
  below : IfSome l.chosen (λ x. x.0 < l.k);
}
