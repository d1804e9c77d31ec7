use Rattle.std.proofs.Common.{◌≡◌, sym}
use Rattle.std.proofs.lemmas.Bool.{false≢true}
use Rattle.sqlite_keeper.proofs.Distinct.{apart_more, again, behind}
use Rattle.sqlite_keeper.proofs.checks.is_part_list.Goals as goal

pub loop-at-preserved : goal.loop-at-preserved
loop-at-preserved c =
    let new = rw behind at (sym c.if-has_component.ensures) in
    apart_more c.args.parts.now c.loop-at.at _ c.loop-at-test.true new c.loop-at.invariant

pub returns-then-has_component : goal.returns-then-has_component
returns-then-has_component c =
    let old = rw behind at (sym c.if-has_component.ensures) in
    (λ no. absurd (false≢true no), λ are. absurd (again c.args.parts.now c.loop-at.at _ c.loop-at-test.true old c.loop-at.invariant are.distinct))
