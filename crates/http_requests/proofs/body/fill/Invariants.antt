use Rattle.std.proofs.Common.{◌≡◌, ◌≤◌, ◌-◌, length, take}
use Rattle.http_edges.specs.Edge.{in_front}
use Rattle.http_requests.proofs.body.fill.Given as goal

abbrev pub invariant-loop-at : goal.invariant-loop-at
invariant-loop-at g l = record {
  within : l.at ≤ length l.into;
  size : length l.into ≡ length l.fn.into;
  gives : in_front l.start (g.S.Source.view l.fn.source).left ≡ in_front (take l.at l.into) (g.S.Source.view l.source).left;
  faults : (g.S.Source.view l.source).faults ≡ (g.S.Source.view l.fn.source).faults;
}

abbrev pub decreases-loop-at : goal.decreases-loop-at
decreases-loop-at g l = length l.into - l.at
