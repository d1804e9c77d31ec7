use Rattle.std.proofs.Common.{All}
use Rattle.http_listeners.specs.Conns.{IsFresh}
use Rattle.connection_rows.proofs.serving.conns.Given as goal

abbrev pub invariant-loop-row : goal.invariant-loop-row
invariant-loop-row l = All IsFresh l.conns.items
