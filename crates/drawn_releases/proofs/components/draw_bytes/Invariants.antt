use Rattle.std.proofs.Common.{◌≡◌, ◌-◌, ◌++◌}
use Rattle.drawn_releases.specs.Generator.{after, drawn_bytes}
use Rattle.drawn_releases.proofs.components.draw_bytes.Given as goal

abbrev pub invariant-loop : goal.invariant-loop
invariant-loop l = record {
  bytes : l.into.items ++ drawn_bytes (l.count - l.counter) l.random ≡ l.initial.into.items ++ drawn_bytes l.count l.fn.random;
  state : after (l.count - l.counter) l.random ≡ after l.count l.fn.random;
}
