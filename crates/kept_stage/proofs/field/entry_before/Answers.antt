use Rattle.std.proofs.Common.{◌≡◌, Bool, Option, Some, None, cond, sym, ap, ◌∙◌, arith}
use Rattle.std.specs.Prelude.{slice_get}
use Rattle.std.proofs.lemmas.Bool.{le-ltb}
use Rattle.avr_reloc.specs.declared.fixup.Fixup.{Fixup}
use Rattle.kept_relocs.specs.List.{before}
use Rattle.kept_stage.proofs.field.entry_before.Goals as goal

pub returns-else-x-end-clause-entry : goal.returns-else-x-end-clause-entry
returns-else-x-end-clause-entry g c = λ s told keeps xs l.
    let here : Some c.in-Some.x ≡ slice_get xs c.args.i = sym c.in-Some.is ∙ c.in-Ok.ensures.entry s told keeps xs l in
    sym (ap (λ (b : Bool). cond b (Some c.in-Some.x) None) (le-ltb c.in-Some.x.place c.args.end (omega (arith, c.if-x-end.false)))) ∙ ap (λ (o : Option Fixup). before c.args.end o) here
