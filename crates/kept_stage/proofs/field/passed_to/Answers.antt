use Rattle.std.proofs.Common.{arith}
use Rattle.kept_stage.proofs.Window.{passed_next}
use Rattle.kept_stage.proofs.field.passed_to.Goals as goal

pub returns-then-ends-end-clause-passed : goal.returns-then-ends-end-clause-passed
returns-then-ends-end-clause-passed c = λ xs rise here was. passed_next xs c.args.end c.args.i c.args.x.now rise here (omega (arith, c.end_of-ends.ensures, c.if-ends-end.true))
