use Rattle.std.proofs.Common.{sym, ap, ◌∙◌}
use Rattle.std.specs.Prelude.{nat_lt}
use Rattle.std.proofs.lemmas.Bool.{lt-ltb, le-ltb}
use Rattle.component_package.specs.link.Link.{Relocations, above}
use Rattle.kept_relocs.proofs.Held.{relocs_are}
use Rattle.kept_relocs.proofs.Causes.{above_is, above_not}
use Rattle.kept_relocs.proofs.check.count_relocs.Goals as goal

pub returns-then-sum-gt-MOST-clause-cause : goal.returns-then-sum-gt-MOST-clause-cause
returns-then-sum-gt-MOST-clause-cause c = λ s components holds.
    let n = c.sum_of-sum.result in
    ap (above 8192 Relocations) (relocs_are s c.args.set.now components c.requires.set c.rooms.ensures holds ∙ sym c.sum_of-sum.ensures)
    ∙ above_is n (nat_lt 8192 n) (λ i. nat_lt 8192 n) (lt-ltb 8192 n c.if-sum-gt-MOST.true)

pub returns-clause-cause : goal.returns-clause-cause
returns-clause-cause c = λ s components holds.
    let n = c.sum_of-sum.result in
    ap (above 8192 Relocations) (relocs_are s c.args.set.now components c.requires.set c.rooms.ensures holds ∙ sym c.sum_of-sum.ensures)
    ∙ above_not n (nat_lt 8192 n) (λ i. nat_lt 8192 n) (le-ltb 8192 n c.if-sum-gt-MOST.false)
