use Rattle.std.proofs.Common.{length, sym, arith}
use Rattle.object_packer.specs.Faults.{section_fault}
use Rattle.object_packer.proofs.First.{first_of-at}
use Rattle.object_packer.proofs.layout.Layout.sections_fault.Goals as goal

pub returns-in-Some : goal.returns-in-Some
returns-in-Some c =
    let o = c.args.self.now in
    sym (first_of-at (section_fault o) (length o.sections) c.loop-k.k c.in-Some.fault (omega (arith, c.section_count-k-end.ensures.count)) c.loop-k.invariant (sym c.in-Some.ensures))
