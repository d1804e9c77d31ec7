use Rattle.std.proofs.Common.{◌≡◌, ◌-◌}
use Rattle.drawn_releases.specs.Generator.{changed}
use Rattle.drawn_releases.proofs.releases.Drawn.change.Given as goal

abbrev pub invariant-loop : goal.invariant-loop
invariant-loop l = changed (l.count - l.counter) l.self ≡ changed l.count l.fn.self
