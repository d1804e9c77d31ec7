use Rattle.std.proofs.Common.{◌≡◌, ℕ, Some, sym, ap, ◌∙◌, ◌+◌, Option}
use Rattle.std.specs.Prelude.{nat_le, slice_get}
use Rattle.avr_reloc.specs.declared.fixup.Fixup.{Fixup}
use Rattle.kept_relocs.specs.List.{has_ended}
use Rattle.kept_relocs.proofs.list.has_ended.Goals as goal

pub returns-in-Some-clause-ended : goal.returns-in-Some-clause-ended
returns-in-Some-clause-ended g c = λ s told keeps xs l.
    let here : Some c.in-Some.x ≡ slice_get xs c.args.i = sym c.in-Some.is ∙ c.in-Ok.ensures.entry s told keeps xs l in
    ap (λ (w : ℕ). nat_le (c.in-Some.x.place + w) c.args.base) c.width.ensures ∙ ap (λ (o : Option Fixup). has_ended c.args.base o) here
