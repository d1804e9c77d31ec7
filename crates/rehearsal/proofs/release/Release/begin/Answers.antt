use Rattle.rehearsal.proofs.release.Release.begin.Goals as goal

pub invariant_of-result : goal.invariant_of-result
invariant_of-result c = record { number = c.args.number; count = 0; is = c.begin.ensures }
