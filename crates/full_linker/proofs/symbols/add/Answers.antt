use Rattle.std.proofs.Common.{◌+◌, refl, ap, cond, ◌∙◌}
use Rattle.std.specs.Prelude.{is_some}
use Rattle.std.specs.BTreeMap.{btree_map_len}
use Rattle.full_linker.proofs.Added.{slots_after, one_more}
use Rattle.full_linker.proofs.symbols.add.Goals as goal

pub returns-clause-slots : goal.returns-clause-slots
returns-clause-slots c =
    λ xs are.
    slots_after xs (c.args.component, c.args.export) c.args.slots.now c.insert.new.self c.with.result are (c.with.ensures xs c.args.export.symbol refl (c.slot_in-slot.ensures xs are))
    c.in_ok-insert.ensures.updates (c.in_ok-insert.ensures.len ∙ ap (λ o. btree_map_len c.args.slots.now + cond (is_some o) 0 1) c.in_ok-insert.ensures.old)

pub returns-clause-small : goal.returns-clause-small
returns-clause-small c = one_more (is_some c.in_ok-insert.field-0) (btree_map_len c.args.slots.now) (btree_map_len c.insert.new.self) c.in_ok-insert.ensures.len
