use Rattle.std.proofs.Common.{◌≡◌, ◌≤◌, ◌-◌, take, length}
use Rattle.http_edges.specs.Edge.{Appends}
use Rattle.http_edges.proofs.edge.write_all.Given as goal

abbrev pub invariant-loop-at : goal.invariant-loop-at
invariant-loop-at g l = record {
  within : l.at ≤ length l.from;
  written : Appends (take l.at l.from) (g.K.Sink.view l.fn.sink) (g.K.Sink.view l.sink);
  faults : (g.K.Sink.view l.sink).faults ≡ (g.K.Sink.view l.fn.sink).faults;
}

abbrev pub decreases-loop-at : goal.decreases-loop-at
decreases-loop-at g l = length l.from - l.at
