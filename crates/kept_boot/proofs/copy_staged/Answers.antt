use Rattle.std.proofs.Common.{◌+◌, Some, refl, ◌∙◌, ap, arith}
use Rattle.flash_pages.proofs.Runs.{uses_uses}
use Rattle.kept_journal.specs.Steps.{parts, Step, Pends}
use Rattle.kept_journal.proofs.Takes.{takes_none, takes_more}
use Rattle.kept_boot.specs.Boots.{IsBehind, program_pages}
use Rattle.kept_boot.proofs.Copies.{copied_to, copied_more, copies_page, copied_all, is_copied}
use Rattle.kept_boot.proofs.Wear.{worn_starts, worn_more, behind_still}
use Rattle.kept_boot.proofs.copy_staged.Goals as goal

pub loop-page-init : goal.loop-page-init
loop-page-init g c = record {
  state = λ s told. told;
  each = λ s told. takes_none Pends program_pages (g.B.Board.view c.args.board.now) s told;
  wear = λ s told. worn_starts (IsBehind (parts s)) (g.B.Board.view c.args.board.now);
  uses = record { untold = λ none. none; left = refl; line = refl; flash = omega arith };
  fault = refl;
}

pub returns-in_err-copy_page-clause-each : goal.returns-in_err-copy_page-clause-each
returns-in_err-copy_page-clause-each g c = λ s told.
    takes_more (Step Pends program_pages s) program_pages (c.loop-page.page + 1) 480 _ _ (omega (arith, c.loop-page-test.true))
    (copies_page c.loop-page.page (λ x. IsBehind (parts x) c.loop-page.page) _ _ _ s (c.loop-page.invariant.each s told) (c.loop-page.invariant.state s told) c.copy_page.ensures.programs)

pub returns-in_err-copy_page-clause-wear : goal.returns-in_err-copy_page-clause-wear
returns-in_err-copy_page-clause-wear g c = λ s told.
    (worn_more c.loop-page.page (λ x. IsBehind (parts x) c.loop-page.page) (IsBehind (parts s)) _ _ _ (copied_to c.loop-page.page s) (c.loop-page.invariant.wear s told) (c.loop-page.invariant.state s told) c.copy_page.ensures.programs
    (behind_still s c.loop-page.page ((g.B.Board.view c.args.board.now).sizes s told) c.loop-page-test.true)).wears

pub loop-page-preserved : goal.loop-page-preserved
loop-page-preserved g c = record {
  state = λ s told.
      let before = c.loop-page.invariant.state s told in
      c.in_ok-copy_page.ensures.ok (copied_to c.loop-page.page s) before ∙ ap Some (copied_more s c.loop-page.page ((g.B.Board.view c.args.board.now).sizes s told) c.loop-page-test.true);
  each = λ s told. copies_page c.loop-page.page (λ x. IsBehind (parts x) c.loop-page.page) _ _ _ s (c.loop-page.invariant.each s told) (c.loop-page.invariant.state s told) c.copy_page.ensures.programs;
  wear = λ s told.
      worn_more c.loop-page.page (λ x. IsBehind (parts x) c.loop-page.page) (IsBehind (parts s)) _ _ _ (copied_to c.loop-page.page s) (c.loop-page.invariant.wear s told) (c.loop-page.invariant.state s told) c.copy_page.ensures.programs
      (behind_still s c.loop-page.page ((g.B.Board.view c.args.board.now).sizes s told) c.loop-page-test.true);
  uses = uses_uses _ _ _ c.loop-page.invariant.uses c.copy_page.ensures.programs.uses;
  fault = c.in_ok-copy_page.ensures.faults ∙ c.loop-page.invariant.fault;
}

pub returns-clause-ok : goal.returns-clause-ok
returns-clause-ok g c = λ s told.
    c.loop-page.invariant.state s told ∙ ap Some (copied_all s c.loop-page.page ((g.B.Board.view c.args.board.now).sizes s told) (omega arith))

pub returns-clause-stands : goal.returns-clause-stands
returns-clause-stands g c = λ s told.
    is_copied c.loop-page.page _ _ s ((g.B.Board.view c.args.board.now).sizes s told) (omega arith) (c.loop-page.invariant.each s told) (c.loop-page.invariant.state s told)

pub returns-clause-each : goal.returns-clause-each
returns-clause-each g c = λ s told. takes_more (Step Pends program_pages s) program_pages c.loop-page.page 480 _ _ (omega arith) (c.loop-page.invariant.each s told)

pub returns-clause-wear : goal.returns-clause-wear
returns-clause-wear g c = λ s told. (c.loop-page.invariant.wear s told).wears
