use Rattle.std.proofs.Common.{◌≡◌, ◌≤◌, ◌-◌, length, take}
use Rattle.http_edges.specs.Edge.{Gives}
use Rattle.http_heads.proofs.head.read_head.Given as goal

abbrev pub invariant-pieces : goal.invariant-pieces
invariant-pieces g l = record {
  within : l.at ≤ length l.buffer;
  room : length l.buffer ≡ 8192;
  headers : length l.headers ≡ 2800;
  gives : Gives (take l.at l.buffer) (g.S.Source.view l.fn.source) (g.S.Source.view l.source);
  faults : (g.S.Source.view l.source).faults ≡ (g.S.Source.view l.fn.source).faults;
}

abbrev pub decreases-pieces : goal.decreases-pieces
decreases-pieces g l = length l.buffer - l.at
