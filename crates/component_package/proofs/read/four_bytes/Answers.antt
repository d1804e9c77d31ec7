use Rattle.std.proofs.Common.{◌+◌, ◌≤◌, length, slice_range}
use Rattle.avr_reloc.proofs.Fixups.{length-field}
use Rattle.component_package.proofs.Steps.{padded}
use Rattle.component_package.proofs.read.four_bytes.Goals as goal

pub returns : goal.returns
returns c =
    let q = slice_range c.args.bytes.now c.args.at (c.args.at + c.args.width) in
    let wide = length-field c.args.bytes.now c.args.at c.args.width c.requires.inside in
    let short : length q ≤ 4 = rw wide c.requires.width in
    rw (c.byte_or_zero.ensures, c.byte_or_zero-2.ensures, c.byte_or_zero-3.ensures, c.byte_or_zero-4.ensures) (rw wide at (padded q short))
