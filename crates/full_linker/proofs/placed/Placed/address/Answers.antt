use Rattle.std.proofs.Common.{◌≡◌, None, sym, ap, ◌∙◌}
use Rattle.std.specs.Option.{option_copied}
use Rattle.component_package.specs.link.Link.{address_of}
use Rattle.full_linker.proofs.Addresses.{slot_defines, undefined, exporter_inside, address_none, address_some}
use Rattle.full_linker.proofs.placed.Placed.address.Goals as goal

pub returns-in_err-slot : goal.returns-in_err-slot
returns-in_err-slot c =
    let set = c.self.inside.set.now in
    let none : None ≡ address_of c.args.self.now c.args.symbol =
    rw (← c.self.view_is) (address_none set c.args.symbol (undefined set c.self.inside.slots c.args.symbol c.self.invariant.slots (sym c.get.ensures.value ∙ ap option_copied c.in_err-slot.was))) in
    c.from_residual.ensures ∙ none

pub returns-in_err-component : goal.returns-in_err-component
returns-in_err-component c =
    let set = c.self.inside.set.now in
    let is = slot_defines set c.self.inside.slots c.args.symbol c.in_ok-slot.slot.now c.self.invariant.slots (sym c.get.ensures.value ∙ ap option_copied c.in_ok-slot.was) in
    let none : None ≡ address_of c.args.self.now c.args.symbol = rw (← c.self.view_is) (address_none set c.args.symbol (sym is ∙ sym c.or.ensures ∙ c.in_err-component.was)) in
    c.from_residual-in_err-component.ensures ∙ none

pub base-requires : goal.base-requires
base-requires c =
    let set = c.self.inside.set.now in
    let is = slot_defines set c.self.inside.slots c.args.symbol c.in_ok-slot.slot.now c.self.invariant.slots (sym c.get.ensures.value ∙ ap option_copied c.in_ok-slot.was) in
    rw (← c.self.view_is) (exporter_inside set c.self.invariant.components.components c.args.symbol (c.in_ok-component.component, c.in_ok-component.export) (sym is ∙ sym c.or.ensures ∙ c.in_ok-component.was))

pub returns : goal.returns
returns c =
    let set = c.self.inside.set.now in
    let is = slot_defines set c.self.inside.slots c.args.symbol c.in_ok-slot.slot.now c.self.invariant.slots (sym c.get.ensures.value ∙ ap option_copied c.in_ok-slot.was) in
    let base = rw (← c.self.view_is) at c.base.ensures.base in
    rw (← c.self.view_is) (address_some set c.args.symbol c.base.result (c.in_ok-component.component, c.in_ok-component.export) (sym is ∙ sym c.or.ensures ∙ c.in_ok-component.was) base)
