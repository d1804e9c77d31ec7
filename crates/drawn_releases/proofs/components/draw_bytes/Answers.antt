use Rattle.std.proofs.Common.{◌∙◌, ap, ℕ, ◌++◌, ◌∷◌, []}
use Rattle.drawn_releases.proofs.Drawing.{byte_on, byte_state_on}
use Rattle.drawn_releases.proofs.components.draw_bytes.Goals as goal

pub loop-preserved : goal.loop-preserved
loop-preserved c = rw (c.draw.ensures.state) (record {
  bytes = byte_on c.args.count c.loop.counter c.loop.random c.loop.into.items _ _ c.loop-test.true
      (c.in_ok-push.ensures.items ∙ ap (λ (b : ℕ). c.loop.into.items ++ b ∷ []) c.draw.ensures.value) c.loop.invariant.bytes;
  state = byte_state_on c.args.count c.loop.counter c.loop.random _ c.loop-test.true c.loop.invariant.state;
})
