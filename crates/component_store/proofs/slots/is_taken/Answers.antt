use Rattle.std.proofs.Common.{◌≡◌, Bool, true, false, List, ℕ, sym, ap, ◌∙◌}
use Rattle.std.specs.Prelude.{◌||◌}
use Rattle.component_package.specs.mote.Store.{is_taken}
use Rattle.component_store.specs.Slots.{used_slots}
use Rattle.component_store.proofs.slots.is_taken.Goals as goal

pub returns-then-has_slot : goal.returns-then-has_slot
returns-then-has_slot c =
    let here : is_taken (used_slots c.args.current.now) c.args.slot ≡ true = ap (λ (l : List ℕ). is_taken l c.args.slot) (sym c.used.ensures) ∙ sym c.has_slot.ensures ∙ c.if-has_slot.true in
    sym (ap (λ (b : Bool). b || is_taken c.args.given.now c.args.slot) here)

pub returns : goal.returns
returns c =
    let here : is_taken (used_slots c.args.current.now) c.args.slot ≡ false = ap (λ (l : List ℕ). is_taken l c.args.slot) (sym c.used.ensures) ∙ sym c.has_slot.ensures ∙ c.if-has_slot.false in
    c.has_slot-2.ensures ∙ sym (ap (λ (b : Bool). b || is_taken c.args.given.now c.args.slot) here)
