use Rattle.std.proofs.Common.{◌≡◌, ◌+◌, Some, refl, ◌∙◌, ap, List, ℕ, arith}
use Rattle.flash_pages.specs.State.{Prog, with_page}
use Rattle.flash_pages.proofs.Runs.{flash_starts, uses_uses, starts, weaker}
use Rattle.kept_core.specs.Format.{blanked, OnlyProg}
use Rattle.kept_core.proofs.Emptying.{blanks_none, blanks_more, blanked_more}
use Rattle.kept_core.proofs.formatting.blank_prog.Goals as goal

pub loop-page-init : goal.loop-page-init
loop-page-init g c = record {
  state = λ s told. told;
  each = λ s told. starts (OnlyProg s) (g.B.Board.view c.args.board.now) s told (blanks_none s);
  uses = flash_starts _;
  fault = refl;
}

pub loop-page-preserved : goal.loop-page-preserved
loop-page-preserved g c = record {
  state = λ s told.
      let before = c.loop-page.invariant.state s told in
      c.in_ok-prog_program.ensures.ok.state (blanked c.loop-page.page s) before
      ∙ ap (λ (page : List ℕ). Some (with_page (blanked c.loop-page.page s) (Prog c.loop-page.page) page)) c.blank.ensures ∙ ap Some (blanked_more s c.loop-page.page ((g.B.Board.view c.args.board.now).sizes s told) c.loop-page-test.true);
  each = λ s told. blanks_more c.loop-page.page _ _ _ s (c.loop-page.invariant.each s told) (c.loop-page.invariant.state s told) c.prog_program.ensures.programs;
  uses = uses_uses _ _ _ c.loop-page.invariant.uses c.prog_program.ensures.programs.uses;
  fault = c.in_ok-prog_program.ensures.faults ∙ c.loop-page.invariant.fault;
}

pub returns-in_err-prog_program-clause-each : goal.returns-in_err-prog_program-clause-each
returns-in_err-prog_program-clause-each g c = λ s told.
    weaker (OnlyProg s) (OnlyProg s) (c.loop-page.page + 1) 480 _ _ (omega (arith, c.loop-page-test.true)) (λ x is. is)
    (blanks_more c.loop-page.page _ _ _ s (c.loop-page.invariant.each s told) (c.loop-page.invariant.state s told) c.prog_program.ensures.programs)

pub returns-clause-ok : goal.returns-clause-ok
returns-clause-ok g c = λ s told.
    c.loop-page.invariant.state s told ∙ (let all : c.loop-page.page ≡ 480 = omega arith in ap (λ (n : ℕ). Some (blanked n s)) all)

pub returns-clause-each : goal.returns-clause-each
returns-clause-each g c = λ s told. weaker (OnlyProg s) (OnlyProg s) c.loop-page.page 480 _ _ (omega arith) (λ x is. is) (c.loop-page.invariant.each s told)
