use Rattle.std.proofs.Common.{subst}
use Rattle.http_heads.specs.Found.{Finds}
use Rattle.http_heads.proofs.Values.{values_none, fields_more}
use Rattle.http_heads.proofs.fields.values.Goals as goal

pub loop-header-init : goal.loop-header-init
loop-header-init c = values_none c.args.name.now

pub loop-header-preserved : goal.loop-header-preserved
loop-header-preserved c = subst (Finds c.seen-found.result) (fields_more _ _ _ _ _ c.loop-header-test.true) (c.seen-found.ensures _ c.loop-header.invariant)
