use Rattle.std.proofs.Common.{refl, subst, arith, List, ℕ}
use Rattle.std.proofs.lemmas.Option.{slice_get_read}
use Rattle.component_package.specs.declared.part.Export.{Export}
use Rattle.full_linker.specs.Slots.{AreSlots}
use Rattle.full_linker.proofs.Collected.{collected_none, collected_more, collected_all}
use Rattle.full_linker.proofs.symbols.collect.Goals as goal

pub loop-k-init : goal.loop-k-init
loop-k-init c = collected_none c.args.set.now c.new-slots.result c.new-slots.ensures.empty

pub loop-k-preserved : goal.loop-k-preserved
loop-k-preserved c =
    let x = c.index-set-k.result in
    let here = slice_get_read c.args.set.now _ c.loop-k.k x refl c.loop-k-test.true c.index-set-k.is in
    collected_more c.args.set.now c.loop-k.k c.loop-k.slots c.add_all.new.slots x c.loop-k.invariant here c.in_ok-add_all.ensures.slots c.in_ok-add_all.ensures.small

pub returns-clause-slots : goal.returns-clause-slots
returns-clause-slots c = subst (λ (xs : List (ℕ × Export)). AreSlots xs c.loop-k.slots) (collected_all c.args.set.now c.loop-k.k (omega (arith, c.loop-k-test.false))) c.loop-k.invariant.slots

pub returns-clause-small : goal.returns-clause-small
returns-clause-small c = omega (arith, c.loop-k.invariant.small, c.loop-k.auto.k-end, c.requires)
