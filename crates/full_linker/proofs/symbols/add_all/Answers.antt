use Rattle.std.proofs.Common.{◌≤◌, length, ap, subst, arith, List, ℕ, ◌++◌}
use Rattle.component_package.specs.declared.part.Export.{Export}
use Rattle.full_linker.specs.Slots.{AreSlots}
use Rattle.full_linker.proofs.Added.{added_none, added_more, added_all}
use Rattle.full_linker.proofs.symbols.add_all.Goals as goal

pub loop-i-init : goal.loop-i-init
loop-i-init c = added_none c.args.component c.args.part.now.exports c.args.slots.now

pub loop-i-preserved : goal.loop-i-preserved
loop-i-preserved c =
    added_more c.args.component c.args.part.now.exports c.args.slots.now c.loop-i.slots c.add.new.slots c.loop-i.i c.export.result c.loop-i.invariant c.export.ensures
    c.in_ok-add.ensures.slots c.in_ok-add.ensures.small

pub returns-clause-slots : goal.returns-clause-slots
returns-clause-slots c =
    λ xs are.
    let past : length c.args.part.now.exports ≤ c.loop-i.i = omega (arith, ap (λ h. h.exports) c.header-i-end.ensures, c.loop-i-test.false) in
    subst (λ (ys : List (ℕ × Export)). AreSlots (xs ++ ys) c.loop-i.slots) (added_all c.args.component c.args.part.now.exports c.loop-i.i past) (c.loop-i.invariant.slots xs are)

pub returns-clause-small : goal.returns-clause-small
returns-clause-small c = omega (arith, c.loop-i.invariant.small, c.loop-i.auto.i-end, c.header-i-end.type_inv)
