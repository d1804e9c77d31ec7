use Rattle.std.proofs.Common.{◌≡◌, ◌+◌, ◌<◌, length, refl, ◌∙◌, arith}
use Rattle.std.proofs.Math.ListN.{length-set}
use Rattle.avr_reloc.specs.Kind.{shape_of}
use Rattle.avr_reloc.specs.Field.{keep_of}
use Rattle.object_packer.proofs.Clearing.{clear_step, clear_start, clear_done, keep_at, width_four}
use Rattle.object_packer.proofs.bytes.clear_field.Goals as goal

pub loop-i-init : goal.loop-i-init
loop-i-init c = record { size = refl; each = clear_start c.args.bytes.now c.args.x.now.offset (keep_of (shape_of c.args.x.now.kind)) }

pub loop-i-preserved : goal.loop-i-preserved
loop-i-preserved c =
    let s = shape_of c.args.x.now.kind in
    let four = width_four s in
    let short : c.loop-i.i < 4 = omega (arith, c.width-i-end.ensures, four) in
    let inside : c.args.x.now.offset + c.loop-i.i < length c.loop-i.bytes = omega (arith, c.width-i-end.ensures, c.requires, c.loop-i.invariant.size) in
    record {
      size = simp length-set c.loop-i.invariant.size;
      each = clear_step c.args.bytes.now c.loop-i.bytes c.args.x.now.offset c.loop-i.i (keep_of s) _ inside (keep_at s c.loop-i.i _ c.value_mask-mask.result c.value_mask-mask.ensures short) c.loop-i.invariant.each;
    }

pub returns : goal.returns
returns c =
    let all : c.loop-i.i ≡ c.width-i-end.result = omega arith in
    clear_done c.args.x.now c.args.bytes.now c.loop-i.bytes c.loop-i.i c.loop-i.invariant.size (all ∙ c.width-i-end.ensures) c.loop-i.invariant.each
