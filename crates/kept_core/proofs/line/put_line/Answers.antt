use Rattle.std.proofs.Common.{arith, refl}
use Rattle.kept_core.proofs.Streams.{spaced_more}
use Rattle.kept_core.proofs.line.put_line.Goals as goal

pub loop-n-preserved : goal.loop-n-preserved
loop-n-preserved c = record {
  within = omega (arith, c.loop-n.invariant.within);
  bytes = spaced_more c.args.words.now c.args.numbers.now _ _ c.loop-n.n-index _ (omega arith) refl c.loop-n.invariant.bytes c.put_number-at.ensures.bytes;
}
