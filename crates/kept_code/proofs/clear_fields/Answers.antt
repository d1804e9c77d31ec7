use Rattle.std.proofs.Common.{rules, refl, ◌∙◌}
use Rattle.kept_code.proofs.Cleared.{none_cleared, loop_cleared}
use Rattle.kept_code.proofs.clear_fields.Goals as goal

pub loop-r-init : goal.loop-r-init
loop-r-init c = (none_cleared c.args.from c.args.in_init c.args.into.now (search rules), refl)

pub loop-r-preserved : goal.loop-r-preserved
loop-r-preserved c = (
  loop_cleared c.args.from c.args.in_init c.args.relocs.now c.loop-r.r-index _ c.args.into.now c.loop-r.into c.clear_field.new.into c.requires.component
      (search rules) c.loop-r-test.true c.loop-r.invariant.0 c.clear_field.ensures,
  c.clear_field.auto.into ∙ c.loop-r.invariant.1,
)
