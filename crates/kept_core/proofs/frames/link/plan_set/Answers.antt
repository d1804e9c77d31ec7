use Rattle.std.proofs.Common.{Some, ap, refl, sym, ◌∙◌}
use Rattle.layout_plan.specs.declared.plan.PlanFault.{PlanFault}
use Rattle.layout_plan.specs.declared.plan.PlanFault.TheVariants as plans
use Rattle.kept_core.proofs.Limits.{has_room, no_room}
use Rattle.kept_core.proofs.frames.link.plan_set.Goals as goal

pub returns-in-Ok-clause-room : goal.returns-in-Ok-clause-room
returns-in-Ok-clause-room c s set holds = has_room c.args.set.now s set c.requires (record { headers = c.room.ensures.headers; entries = c.room.ensures.entries; slots = c.room.ensures.slots }) holds (sym c.in-Ok.ensures.fault)

pub returns-in-Err-Flash-clause-refuses : goal.returns-in-Err-Flash-clause-refuses
returns-in-Err-Flash-clause-refuses c s set holds = no_room c.args.set.now s set c.requires (record { headers = c.room.ensures.headers; entries = c.room.ensures.entries; slots = c.room.ensures.slots }) holds (plans.Flash c.in-Err-Flash.total) _ (sym c.in-Err-Flash.ensures.fault ∙ ap (λ (f : PlanFault). Some f) c.in-Err-Flash.field-0-is) refl

pub returns-in-Err-Ram-clause-refuses : goal.returns-in-Err-Ram-clause-refuses
returns-in-Err-Ram-clause-refuses c s set holds = no_room c.args.set.now s set c.requires (record { headers = c.room.ensures.headers; entries = c.room.ensures.entries; slots = c.room.ensures.slots }) holds (plans.Ram c.in-Err-Ram.total) _ (sym c.in-Err-Ram.ensures.fault ∙ ap (λ (f : PlanFault). Some f) c.in-Err-Ram.field-0-is) refl
