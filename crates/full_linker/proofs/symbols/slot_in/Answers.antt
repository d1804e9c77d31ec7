use Rattle.std.proofs.Common.{ap, sym, ◌∙◌}
use Rattle.std.specs.Option.{option_copied}
use Rattle.full_linker.proofs.Slots.{kept_is, none_kept}
use Rattle.full_linker.proofs.symbols.slot_in.Goals as goal

pub returns-in-Some : goal.returns-in-Some
returns-in-Some c = λ xs are. kept_is xs c.args.slots.now c.args.symbol c.in-Some.slot.now are (sym c.get.ensures.value ∙ ap option_copied c.in-Some.is)

pub returns-in-None : goal.returns-in-None
returns-in-None c = λ xs are. none_kept xs c.args.slots.now c.args.symbol are (sym c.get.ensures.value ∙ ap option_copied c.in-None.is)
