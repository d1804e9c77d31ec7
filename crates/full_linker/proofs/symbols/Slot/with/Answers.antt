use Rattle.std.proofs.Common.{sym}
use Rattle.full_linker.proofs.Slots.{slot_weak, slot_strong, slot_second}
use Rattle.full_linker.proofs.symbols.Slot.with.Goals as goal

pub returns-then-export : goal.returns-then-export
returns-then-export c = λ xs s e same. rw (c.or-first.ensures, same) (sym (slot_weak xs (c.args.component, c.args.export) s e c.if-export.true))

pub returns-in-None : goal.returns-in-None
returns-in-None c = λ xs s e same. rw (c.or-first.ensures, same) (sym (slot_strong xs (c.args.component, c.args.export) s e c.if-export.false (rw same at c.in-None.is)))

pub returns-in-Some : goal.returns-in-Some
returns-in-Some c = λ xs s e same. rw (c.or-first.ensures, c.or.ensures, same) (sym (slot_second xs (c.args.component, c.args.export) c.in-Some.field-0 s e c.if-export.false (rw same at c.in-Some.is)))
