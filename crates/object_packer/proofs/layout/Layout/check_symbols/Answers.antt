use Rattle.std.proofs.Common.{length, arith}
use Rattle.object_packer.specs.Faults.{symbol_fault}
use Rattle.object_packer.proofs.First.{says_at}
use Rattle.object_packer.proofs.layout.Layout.check_symbols.Goals as goal

pub returns-in-Err-clause-fault : goal.returns-in-Err-clause-fault
returns-in-Err-clause-fault c =
    let o = c.args.self.now in
    says_at (symbol_fault o) (length o.symbols) c.loop-i.i c.in-Err.fault (omega (arith, c.symbol_count-i-end.ensures)) c.loop-i.invariant.none c.in-Err.ensures.fault
