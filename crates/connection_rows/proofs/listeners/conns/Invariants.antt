use Rattle.std.proofs.Common.{All}
use Rattle.http_listeners.specs.Conns.{IsFresh}
use Rattle.connection_rows.proofs.listeners.conns.Given as goal

abbrev pub invariant-loop-input : goal.invariant-loop-input
invariant-loop-input l = All IsFresh l.conns.items
