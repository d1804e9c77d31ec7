use Rattle.std.proofs.Common.{◌≡◌, ◌≤◌, ◌-◌}
use Rattle.server_loop.specs.Serving.{Serves}
use Rattle.server_loop.proofs.serve.serve_all.Given as goal

abbrev pub invariant-loop-done : goal.invariant-loop-done
invariant-loop-done g l = record {
  within : l.done ≤ l.count;
  serves : Serves l.done (g.L.Listener.view l.fn.listener) (g.L.Listener.view l.listener) (g.Q.Rows.view l.fn.keeper) (g.Q.Rows.view l.keeper);
  faults : (g.L.Listener.view l.listener).faults ≡ (g.L.Listener.view l.fn.listener).faults;
  unfinished : (g.L.Listener.view l.listener).unfinished ≡ (g.L.Listener.view l.fn.listener).unfinished;
}

abbrev pub decreases-loop-done : goal.decreases-loop-done
decreases-loop-done g l = l.count - l.done
