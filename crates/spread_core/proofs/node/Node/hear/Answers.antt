use Rattle.std.proofs.Common.{sym, subst}
use Rattle.spread_core.specs.declared.message.Message.{Message}
use Rattle.spread_core.specs.declared.node.Node.{Node}
use Rattle.spread_core.specs.Causes.{IsCalledFor, MayBeDone}
use Rattle.spread_core.proofs.Steps.{called_for, may_be_done}
use Rattle.spread_core.proofs.node.Node.hear.Goals as goal

pub returns-clause-called_for : goal.returns-clause-called_for
returns-clause-called_for c =
    let n : Node = c.args.self.now in
    let m : Message = c.args.m.now in
    subst (IsCalledFor n m) (sym c.step.ensures) (called_for n m)

pub returns-clause-next : goal.returns-clause-next
returns-clause-next c =
    let n : Node = c.args.self.now in
    let m : Message = c.args.m.now in
    subst (MayBeDone n.manifest) (sym c.step.ensures) (may_be_done n m c.requires.manifest c.requires.offered)
