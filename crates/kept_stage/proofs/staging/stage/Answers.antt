use Rattle.std.proofs.Common.{◌≡◌, ℕ, ◌*◌, List, [], get_or, refl, sym, ◌∙◌, subst, arith}
use Rattle.flash_pages.proofs.Runs.{uses_uses, weaker}
use Rattle.component_package.specs.link.Areas.{Lists}
use Rattle.component_store.proofs.Calls.{reads_none}
use Rattle.kept_relocs.proofs.Written.{HoldsFirst, told_wears, each_read, once_read, wear_read, each_program, once_program, wear_program, spares_next, pass_next, holds_next, passed_none, wears_in, wears_other}
use Rattle.kept_store.specs.Sets.{HoldsSet}
use Rattle.kept_stage.specs.Staged.{OnlyStaged}
use Rattle.kept_stage.proofs.Window.{starts_passed}
use Rattle.kept_stage.proofs.Sets.{only_staged_starts, only_staged_next, list_stays, list_reader_stays, list_reader_stayed, set_stays, pages_stay, pages_count, all_staged}
use Rattle.kept_stage.proofs.staging.stage.Goals as goal

pub loop-page-init : goal.loop-page-init
loop-page-init g c = record {
  inside = omega arith;
  low = omega arith;
  uses = (reads_none (g.B.Board.view c.args.board.now)).uses;
  fault = refl;
  pass = λ s told. passed_none 306 OnlyStaged s (g.B.Board.view c.args.board.now) (only_staged_starts s) told;
  keeps = λ s told. c.new-list.ensures s;
  passed = λ s told xs l. starts_passed xs (256 * 0);
  holds = λ s told pages are x now p lt. absurd (omega (arith, lt));
  spares = λ s told pages are p lt free. absurd (omega (arith, lt));
}

pub make_page-requires-clause-first : goal.make_page-requires-clause-first
make_page-requires-clause-first g c = c.loop-page.invariant.low

pub returns-in_default-clause-each : goal.returns-in_default-clause-each
returns-in_default-clause-each g c = λ s told. each_read 306 785 480 refl OnlyStaged only_staged_next s _ (g.B.Board.view c.loop-page.board) (g.B.Board.view c.make_page.new.board)
    c.loop-page.page c.loop-page-test.true (c.loop-page.invariant.pass s told) c.make_page.ensures.reads

pub returns-in_default-clause-once : goal.returns-in_default-clause-once
returns-in_default-clause-once g c = told_wears _ _ _ (λ s told. once_read 306 785 480 refl OnlyStaged only_staged_next s _ (g.B.Board.view c.loop-page.board)
    (g.B.Board.view c.make_page.new.board) c.loop-page.page c.loop-page-test.true (c.loop-page.invariant.pass s told) c.make_page.ensures.reads)

pub returns-in_default-clause-wear : goal.returns-in_default-clause-wear
returns-in_default-clause-wear g c = λ s told pages are.
    wear_read 306 785 480 refl OnlyStaged only_staged_next s _ (g.B.Board.view c.loop-page.board) (g.B.Board.view c.make_page.new.board) c.loop-page.page c.loop-page-test.true
    (c.loop-page.invariant.pass s told) c.make_page.ensures.reads
    pages (pages_count s c.args.set.now pages are) (c.loop-page.invariant.spares s told pages are) told

pub returns-in_default-program_if_different-clause-each : goal.returns-in_default-program_if_different-clause-each
returns-in_default-program_if_different-clause-each g c = λ s told. each_program 306 785 480 refl OnlyStaged only_staged_next s _ (g.B.Board.view c.loop-page.board)
    (g.B.Board.view c.make_page.new.board) c.loop-page.page c.loop-page-test.true (c.loop-page.invariant.pass s told) c.make_page.ensures.reads
    (g.B.Board.view c.program_if_different.new.board) c.make_page.new.into c.program_if_different.ensures.programs

pub returns-in_default-program_if_different-clause-once : goal.returns-in_default-program_if_different-clause-once
returns-in_default-program_if_different-clause-once g c = told_wears _ _ _ (λ s told. once_program 306 785 480 refl OnlyStaged only_staged_next s _ (g.B.Board.view c.loop-page.board)
    (g.B.Board.view c.make_page.new.board) c.loop-page.page c.loop-page-test.true (c.loop-page.invariant.pass s told) c.make_page.ensures.reads
    (g.B.Board.view c.program_if_different.new.board) c.make_page.new.into c.program_if_different.ensures.programs)

pub returns-in_default-program_if_different-clause-wear : goal.returns-in_default-program_if_different-clause-wear
returns-in_default-program_if_different-clause-wear g c = λ s told pages are.
    let pass = c.loop-page.invariant.pass s told in
    let x = pass.run.end in
    let only = pass.run.ends in
    let keeps_x = list_reader_stays s x c.loop-page.list only (c.loop-page.invariant.keeps s told) in
    let bytes_are : c.make_page.new.into ≡ get_or pages c.loop-page.page [] =
    c.in-Ok.ensures.page x pass.run.told keeps_x (λ xs l. c.loop-page.invariant.passed s told xs (subst (λ (b : List ℕ). Lists b xs) (list_stays s x only) l)) pages
    (pages_stay s x c.args.set.now pages only are) in
    wear_program 306 785 480 refl OnlyStaged only_staged_next s _ (g.B.Board.view c.loop-page.board) (g.B.Board.view c.make_page.new.board) c.loop-page.page c.loop-page-test.true
    (c.loop-page.invariant.pass s told) c.make_page.ensures.reads (g.B.Board.view c.program_if_different.new.board) c.make_page.new.into c.program_if_different.ensures.programs
    pages (pages_count s c.args.set.now pages are) bytes_are (c.loop-page.invariant.spares s told pages are) told

pub loop-page-preserved : goal.loop-page-preserved
loop-page-preserved g c = record {
  inside = omega (arith, c.loop-page-test.true);
  low = c.in-Ok.ensures.next;
  uses = uses_uses _ _ _ (uses_uses _ _ _ c.loop-page.invariant.uses c.make_page.ensures.reads.uses) c.program_if_different.ensures.programs.uses;
  fault = c.in-Ok-program_if_different.ensures.faults ∙ c.in-Ok.ensures.faults ∙ c.loop-page.invariant.fault;
  pass = λ s told. pass_next 306 785 480 refl OnlyStaged only_staged_next s _ (g.B.Board.view c.loop-page.board) (g.B.Board.view c.make_page.new.board) c.loop-page.page c.loop-page-test.true
      (c.loop-page.invariant.pass s told) c.make_page.ensures.reads (g.B.Board.view c.program_if_different.new.board) c.make_page.new.into c.program_if_different.ensures.programs
      c.in-Ok-program_if_different.ensures.ok;
  keeps = λ s told.
      let pass = c.loop-page.invariant.pass s told in
      let x = pass.run.end in
      let only = pass.run.ends in
      let keeps_x = list_reader_stays s x c.loop-page.list only (c.loop-page.invariant.keeps s told) in
      list_reader_stayed s x c.make_page.new.list only (c.in-Ok.ensures.keeps x pass.run.told keeps_x);
  passed = λ s told xs l.
      let pass = c.loop-page.invariant.pass s told in
      let x = pass.run.end in
      let only = pass.run.ends in
      let keeps_x = list_reader_stays s x c.loop-page.list only (c.loop-page.invariant.keeps s told) in
      c.in-Ok.ensures.passed x pass.run.told keeps_x xs (subst (λ (b : List ℕ). Lists b xs) (sym (list_stays s x only)) l) (c.loop-page.invariant.passed s told xs l);
  holds = λ s told pages are.
      let pass = c.loop-page.invariant.pass s told in
      let x = pass.run.end in
      let only = pass.run.ends in
      let keeps_x = list_reader_stays s x c.loop-page.list only (c.loop-page.invariant.keeps s told) in
      let bytes_are : c.make_page.new.into ≡ get_or pages c.loop-page.page [] =
      c.in-Ok.ensures.page x pass.run.told keeps_x (λ xs l. c.loop-page.invariant.passed s told xs (subst (λ (b : List ℕ). Lists b xs) (list_stays s x only) l)) pages
      (pages_stay s x c.args.set.now pages only are) in
      holds_next 306 785 480 refl OnlyStaged only_staged_next s _ (g.B.Board.view c.loop-page.board) (g.B.Board.view c.make_page.new.board) c.loop-page.page c.loop-page-test.true
      (c.loop-page.invariant.pass s told) c.make_page.ensures.reads (g.B.Board.view c.program_if_different.new.board) c.make_page.new.into c.program_if_different.ensures.programs
      c.in-Ok-program_if_different.ensures.ok (omega arith)
      (λ p. get_or pages p []) bytes_are (c.loop-page.invariant.holds s told pages are);
  spares = λ s told pages are.
      let pass = c.loop-page.invariant.pass s told in
      let x = pass.run.end in
      let only = pass.run.ends in
      let keeps_x = list_reader_stays s x c.loop-page.list only (c.loop-page.invariant.keeps s told) in
      let bytes_are : c.make_page.new.into ≡ get_or pages c.loop-page.page [] =
      c.in-Ok.ensures.page x pass.run.told keeps_x (λ xs l. c.loop-page.invariant.passed s told xs (subst (λ (b : List ℕ). Lists b xs) (list_stays s x only) l)) pages
      (pages_stay s x c.args.set.now pages only are) in
      spares_next 306 785 480 refl OnlyStaged only_staged_next s _ (g.B.Board.view c.loop-page.board) (g.B.Board.view c.make_page.new.board) c.loop-page.page c.loop-page-test.true
      (c.loop-page.invariant.pass s told) c.make_page.ensures.reads (g.B.Board.view c.program_if_different.new.board) c.make_page.new.into c.program_if_different.ensures.programs
      (λ p. get_or pages p []) bytes_are (c.loop-page.invariant.spares s told pages are);
}

pub returns-clause-ok : goal.returns-clause-ok
returns-clause-ok g c = λ s told pages are.
    let pass = c.loop-page.invariant.pass s told in
    let x = pass.run.end in
    let all : c.loop-page.page ≡ 480 = omega (arith, c.loop-page.invariant.inside, c.loop-page-test.false) in
    all_staged (g.B.Board.view c.loop-page.board) x pages pass.run.told (pages_count s c.args.set.now pages are)
    (subst (λ (n : ℕ). HoldsFirst 306 n x (λ p. get_or pages p [])) all (c.loop-page.invariant.holds s told pages are x pass.run.told))

pub returns-clause-each : goal.returns-clause-each
returns-clause-each g c = λ s told. let pass = c.loop-page.invariant.pass s told in weaker (OnlyStaged s) (OnlyStaged s) c.loop-page.page 480 _ (g.B.Board.view c.loop-page.board)
    c.loop-page.invariant.inside (λ x here. here) pass.run

pub returns-clause-once : goal.returns-clause-once
returns-clause-once g c = told_wears _ _ _ (λ s told. wears_in 306 785 c.loop-page.page _ (g.B.Board.view c.loop-page.board) (omega (arith, c.loop-page.invariant.inside))
    (c.loop-page.invariant.pass s told).worn)

pub returns-clause-wear : goal.returns-clause-wear
returns-clause-wear g c = λ s told pages are.
    wears_other 306 c.loop-page.page pages s _ (g.B.Board.view c.loop-page.board) told (omega (arith, c.loop-page.invariant.inside, pages_count s c.args.set.now pages are))
    (c.loop-page.invariant.pass s told).worn (c.loop-page.invariant.spares s told pages are)

-- the set stays wherever only the staged image changes
pub returns-in_default-clause-held : goal.returns-in_default-clause-held
returns-in_default-clause-held g c = λ s told components holds.
    weaker (OnlyStaged s) (λ x. HoldsSet x c.args.set.now components) 480 480 _ (g.B.Board.view c.make_page.new.board) (omega arith)
    (λ x only. set_stays s x c.args.set.now components only holds) (returns-in_default-clause-each g c s told)

pub returns-in_default-program_if_different-clause-held : goal.returns-in_default-program_if_different-clause-held
returns-in_default-program_if_different-clause-held g c = λ s told components holds.
    weaker (OnlyStaged s) (λ x. HoldsSet x c.args.set.now components) 480 480 _ (g.B.Board.view c.program_if_different.new.board) (omega arith)
    (λ x only. set_stays s x c.args.set.now components only holds) (returns-in_default-program_if_different-clause-each g c s told)

pub returns-clause-held : goal.returns-clause-held
returns-clause-held g c = λ s told components holds.
    weaker (OnlyStaged s) (λ x. HoldsSet x c.args.set.now components) 480 480 _ (g.B.Board.view c.loop-page.board) (omega arith)
    (λ x only. set_stays s x c.args.set.now components only holds) (returns-clause-each g c s told)
