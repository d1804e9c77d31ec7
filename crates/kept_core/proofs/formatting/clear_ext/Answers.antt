use Rattle.std.proofs.Common.{◌≡◌, ◌+◌, Some, refl, ◌∙◌, ap, ℕ, arith}
use Rattle.flash_pages.proofs.Runs.{flash_starts, uses_uses, starts, weaker}
use Rattle.kept_core.specs.Format.{cleared, Clears}
use Rattle.kept_core.proofs.Emptying.{clears_none, clears_more, cleared_more}
use Rattle.kept_core.proofs.formatting.clear_ext.Goals as goal

pub loop-page-init : goal.loop-page-init
loop-page-init g c = record {
  state = λ s told. told;
  each = λ s told. starts (Clears s) (g.B.Board.view c.args.board.now) s told (clears_none s);
  uses = flash_starts _;
  fault = refl;
}

pub loop-page-preserved : goal.loop-page-preserved
loop-page-preserved g c = record {
  state = λ s told.
      let before = c.loop-page.invariant.state s told in
      c.in_ok-ext_program.ensures.ok.state (cleared c.loop-page.page s) before
      ∙ ap Some (cleared_more s c.loop-page.page _ ((g.B.Board.view c.args.board.now).sizes s told) c.loop-page-test.true c.empty_board_page.ensures);
  each = λ s told. clears_more c.loop-page.page _ _ _ s (c.loop-page.invariant.each s told) (c.loop-page.invariant.state s told) c.ext_program.ensures.programs;
  uses = uses_uses _ _ _ c.loop-page.invariant.uses c.ext_program.ensures.programs.uses;
  fault = c.in_ok-ext_program.ensures.faults ∙ c.loop-page.invariant.fault;
}

pub returns-in_err-ext_program-clause-each : goal.returns-in_err-ext_program-clause-each
returns-in_err-ext_program-clause-each g c = λ s told.
    weaker (Clears s) (Clears s) (c.loop-page.page + 1) 2048 _ _ (omega (arith, c.loop-page-test.true)) (λ x is. is)
    (clears_more c.loop-page.page _ _ _ s (c.loop-page.invariant.each s told) (c.loop-page.invariant.state s told) c.ext_program.ensures.programs)

pub returns-clause-ok : goal.returns-clause-ok
returns-clause-ok g c = λ s told.
    c.loop-page.invariant.state s told ∙ (let all : c.loop-page.page ≡ 2048 = omega arith in ap (λ (n : ℕ). Some (cleared n s)) all)

pub returns-clause-each : goal.returns-clause-each
returns-clause-each g c = λ s told. weaker (Clears s) (Clears s) c.loop-page.page 2048 _ _ (omega arith) (λ x is. is) (c.loop-page.invariant.each s told)
