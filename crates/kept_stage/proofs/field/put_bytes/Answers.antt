use Rattle.std.proofs.Common.{◌+◌}
use Rattle.kept_stage.proofs.Window.{byte_more}
use Rattle.kept_stage.proofs.field.put_bytes.Goals as goal

pub loop-i-preserved : goal.loop-i-preserved
loop-i-preserved c = λ k lt. byte_more _ _ c.args.place c.loop-i.i (c.args.base + k) _ _ _ (c.loop-i.invariant k lt) (c.put_byte.ensures k lt)
