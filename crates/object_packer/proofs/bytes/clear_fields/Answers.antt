use Rattle.std.proofs.Common.{sym, ◌∙◌}
use Rattle.object_packer.specs.Packed.{stands_in}
use Rattle.object_packer.proofs.Clearing.{fields_yes, fields_no}
use Rattle.object_packer.proofs.bytes.clear_fields.Goals as goal
use Rattle.object_packer.proofs.bytes.clear_fields.Goals.{then-stands_in, else-stands_in}

pub loop-x-preserved : goal.loop-x-preserved
loop-x-preserved c =
    elim c.if-stands_in.branch [
      | then-stands_in w ↦ record {
        size = c.if-stands_in.auto.bytes ∙ c.loop-x.invariant.size;
        cleared = fields_yes (stands_in c.args.in_init) c.args.relocs.now c.loop-x.x-index _ c.args.bytes.now c.loop-x.bytes c.if-stands_in.bytes c.loop-x-test.true (sym c.stands_in.ensures ∙ w.if-stands_in.true)
            c.loop-x.invariant.cleared (w.bytes-is ∙ w.clear_field.ensures);
      }
      | else-stands_in w ↦ record {
        size = c.if-stands_in.auto.bytes ∙ c.loop-x.invariant.size;
        cleared = w.bytes-is ∙ fields_no (stands_in c.args.in_init) c.args.relocs.now c.loop-x.x-index _ c.args.bytes.now c.loop-x.bytes c.loop-x-test.true (sym c.stands_in.ensures ∙ w.if-stands_in.false)
            c.loop-x.invariant.cleared;
      }
    ]
