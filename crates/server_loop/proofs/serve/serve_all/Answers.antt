use Rattle.std.proofs.Common.{◌+◌, refl, ◌∙◌, arith}
use Rattle.server_loop.proofs.Chains.{serves_none, serves_more, serves_then_none}
use Rattle.server_loop.proofs.serve.serve_all.Goals as goal

pub loop-done-init : goal.loop-done-init
loop-done-init g c = record {
  within = omega arith;
  serves = serves_none (g.L.Listener.view c.args.listener.now) (g.Q.Rows.view c.args.keeper.now);
  faults = refl;
  unfinished = refl;
}

pub returns-in_default-clause-fewer : goal.returns-in_default-clause-fewer
returns-in_default-clause-fewer g c = (
  c.loop-done.done,
  c.loop-done-test.true,
  serves_then_none c.loop-done.done (g.L.Listener.view c.args.listener.now) (g.L.Listener.view c.loop-done.listener) (g.L.Listener.view c.serve_next.new.listener)
      (g.Q.Rows.view c.args.keeper.now) (g.Q.Rows.view c.loop-done.keeper) (g.Q.Rows.view c.serve_next.new.keeper) c.loop-done.invariant.serves c.in_default.ensures.none c.in_default.ensures.kept,
)

pub loop-done-preserved : goal.loop-done-preserved
loop-done-preserved g c = record {
  within = omega (arith, c.loop-done-test.true);
  serves = serves_more c.loop-done.done 1 (g.L.Listener.view c.args.listener.now) (g.L.Listener.view c.loop-done.listener) (g.L.Listener.view c.serve_next.new.listener)
      (g.Q.Rows.view c.args.keeper.now) (g.Q.Rows.view c.loop-done.keeper) (g.Q.Rows.view c.serve_next.new.keeper) c.loop-done.invariant.serves c.in-Ok.ensures.served;
  faults = c.in-Ok.ensures.counts.ok ∙ c.loop-done.invariant.faults;
  unfinished = c.serve_next.ensures.unfinished ∙ c.loop-done.invariant.unfinished;
}
