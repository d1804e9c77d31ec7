use Rattle.std.proofs.Common.{◌≡◌, ◌-◌}
use Rattle.drawn_releases.specs.Generator.{with_more}
use Rattle.drawn_releases.proofs.releases.Drawn.make_all.Given as goal

abbrev pub invariant-loop-component : goal.invariant-loop-component
invariant-loop-component l = with_more (13 - l.component) l.component l.self ≡ with_more 12 1 l.fn.self
