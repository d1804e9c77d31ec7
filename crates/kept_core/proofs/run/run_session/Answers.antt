use Rattle.kept_laws.specs.Standing.{IsUnformatted}
use Rattle.kept_journal.specs.Steps.{parts}
use Rattle.kept_core.specs.declared.status.Status.TheVariants.{Unformatted}
use Rattle.std.proofs.Common.{inl, inr, arith, refl, ◌∙◌, sym, subst, ℕ, ◌≡◌, [], Some, ap}
use Rattle.flash_pages.specs.Board.{Rose}
use Rattle.component_package.specs.mote.Machine.{boot_frame}
use Rattle.kept_core.proofs.Runs.{boot_fault, boot_cut, boot_goes, session_on, session_over}
use Rattle.kept_core.proofs.Turns.{never_unformatted}
use Rattle.std.proofs.lemmas.Bool.{false≢true}
use Rattle.kept_core.specs.Commands.{code_of}
use Rattle.kept_core.proofs.Readings.{reading_starts, reading_on, reading_over, stays_sent, stays_then}
use Rattle.kept_core.proofs.run.run_session.Goals as goal

pub returns-in_default-clause-run : goal.returns-in_default-clause-run
returns-in_default-clause-run g c s e l told told_left stands =
    let d = c.in_default.ensures in
    boot_fault (g.B.Board.view c.args.board.now) s e l told stands 4 (g.B.Board.view c.serve_boot.new.board) d.works (d.uses.left ∙ told_left) (λ calm. calm.flash d.faults)

pub returns-in-Unformatted-clause-run : goal.returns-in-Unformatted-clause-run
returns-in-Unformatted-clause-run g c s e l told told_left stands =
    absurd (never_unformatted boot_frame (g.B.Board.view c.args.board.now) (g.B.Board.view c.serve_boot.new.board) e s c.in-Ok.answer told stands c.in-Ok.ensures.does c.in-Unformatted.is)

pub returns-in_default-send_line-clause-run : goal.returns-in_default-send_line-clause-run
returns-in_default-send_line-clause-run g c s e l told told_left stands =
    let d = c.in-Ok.ensures in
    let p = c.in_default-send_line.ensures in
    boot_cut (g.B.Board.view c.args.board.now) s e l told stands (g.B.Board.view c.serve_boot.new.board) (g.B.Board.view c.send_line.new.board) c.in-Ok.answer d.works d.does (p.left ∙ (d.uses.left ∙ told_left)) p.line 5
    (λ y told_y. let x = p.sent y told_y in (x.0, x.1, x.2, x.3)) (λ calm. calm.line (subst (λ (n : ℕ). Rose n (g.B.Board.view c.send_line.new.board).line_faults) d.uses.line p.failed))

pub loop-status-init : goal.loop-status-init
loop-status-init g c =
    let d = c.in-Ok.ensures in
    let p = c.in-Ok-send_line.ensures in
    record {
      line = p.no_fault ∙ d.uses.line;
      flash = p.line.flash ∙ d.faults;
      sessions = λ s e l told told_left stands.
          let b = boot_goes (g.B.Board.view c.args.board.now) s e l told stands (g.B.Board.view c.serve_boot.new.board) (g.B.Board.view c.send_line.new.board) c.in-Ok.answer d.works d.does (p.left ∙ (d.uses.left ∙ told_left)) p.line
          (λ y told_y. let x = p.sent y told_y in (x.0, x.1, x.2, x.3, x.4)) in
          (b.0, b.1, b.2, b.3 ∙ sym c.new-session.ensures.served, b.4);
      stream = λ l told_left. ([], l, sym c.new-session.ensures.served, reading_starts l (g.B.Board.view c.send_line.new.board) (p.left ∙ (d.uses.left ∙ told_left)));
      formatted = λ s told.
          let kept = d.stays s told in
          let x = p.sent kept.end kept.told in
          stays_sent s x.1 (g.B.Board.view c.serve_boot.new.board) (g.B.Board.view c.send_line.new.board) x.0 _ kept x.3 x.2;
    }

pub loop-status-preserved : goal.loop-status-preserved
loop-status-preserved g c =
    let more = c.in_default-turn.ensures.served refl in
    record {
      line = c.in_default-turn.ensures.faults.line_kept (λ z. absurd (omega arith)) ∙ c.loop-status.invariant.line;
      flash = c.in_default-turn.ensures.faults.flash_kept (λ z. absurd (omega arith)) ∙ c.loop-status.invariant.flash;
      sessions = λ s e l told told_left stands.
          let d = c.loop-status.invariant.sessions s e l told told_left stands in
          session_on s e l d.0 d.1 d.2 _ _ (g.B.Board.view c.args.board.now) (g.B.Board.view c.loop-status.board) (g.B.Board.view c.turn.new.board) d.3 more.1 d.4 c.in_default-turn.ensures.turns;
      stream = λ l told_left.
          let d = c.loop-status.invariant.stream l told_left in
          reading_on l d.0 d.1 _ _ (g.B.Board.view c.loop-status.board) (g.B.Board.view c.turn.new.board) d.2 more.1 d.3 (c.in_default-turn.ensures.reads d.1 d.3.told_left refl);
      formatted = λ s told.
          let kept = c.loop-status.invariant.formatted s told in
          stays_then s (g.B.Board.view c.loop-status.board) (g.B.Board.view c.turn.new.board) kept ((c.in_default-turn.ensures.formatted kept.end kept.told).stays refl);
    }

pub returns-in-Some-clause-run : goal.returns-in-Some-clause-run
returns-in-Some-clause-run g c s e l told told_left stands =
    let d = c.loop-status.invariant.sessions s e l told told_left stands in
    session_over s e l d.0 d.1 d.2 _ (code_of c.in-Some.status) (g.B.Board.view c.args.board.now) (g.B.Board.view c.loop-status.board) (g.B.Board.view c.turn.new.board) d.3
    c.loop-status.invariant.flash c.loop-status.invariant.line c.in-Some.ensures.faults d.4 c.in-Some.ensures.turns

pub returns-in_default-clause-unformatted : goal.returns-in_default-clause-unformatted
returns-in_default-clause-unformatted g c s told = record {
  only = λ is. absurd (let q : ⊥ = cc in q);
  always = λ none. inr refl;
  nothing = λ is. absurd (let q : ⊥ = cc in q);
}

pub returns-in-Unformatted-clause-unformatted : goal.returns-in-Unformatted-clause-unformatted
returns-in-Unformatted-clause-unformatted g c s told = record {
  only = λ is. (c.in-Ok.ensures.formatted s told).0 c.in-Unformatted.is;
  always = λ none. inl refl;
  nothing = λ is. c.in-Ok.ensures.nothing c.in-Unformatted.is ∙ told;
}

pub returns-in_default-send_line-clause-unformatted : goal.returns-in_default-send_line-clause-unformatted
returns-in_default-send_line-clause-unformatted g c s told = record {
  only = λ is. absurd (let q : ⊥ = cc in q);
  always = λ none. absurd (c.in_default-answer.not-Unformatted ((c.in-Ok.ensures.formatted s told).1 none));
  nothing = λ is. absurd (let q : ⊥ = cc in q);
}

pub returns-in-Some-clause-unformatted : goal.returns-in-Some-clause-unformatted
returns-in-Some-clause-unformatted g c s told =
    let kept = c.loop-status.invariant.formatted s told in
    let none : c.in-Some.status ≡ Unformatted → IsUnformatted (parts s) = λ is. kept.stays ((c.in-Some.ensures.formatted kept.end kept.told).only (ap Some is)) in
    record {
      only = none;
      always = λ here. absurd (c.in_default-answer.not-Unformatted ((c.in-Ok.ensures.formatted s told).1 here));
      nothing = λ is. absurd (c.in_default-answer.not-Unformatted ((c.in-Ok.ensures.formatted s told).1 (none is)));
    }

pub returns-in_default-clause-reads : goal.returns-in_default-clause-reads
returns-in_default-clause-reads g c l told_left stop = absurd (false≢true stop)

pub returns-in-Unformatted-clause-reads : goal.returns-in-Unformatted-clause-reads
returns-in-Unformatted-clause-reads g c l told_left stop = absurd (false≢true stop)

pub returns-in_default-send_line-clause-reads : goal.returns-in_default-send_line-clause-reads
returns-in_default-send_line-clause-reads g c l told_left stop = absurd (false≢true stop)

pub returns-in-Some-clause-reads : goal.returns-in-Some-clause-reads
returns-in-Some-clause-reads g c l told_left stop =
    let d = c.loop-status.invariant.stream l told_left in
    reading_over l d.0 d.1 _ c.in-Some.status (g.B.Board.view c.loop-status.board) (g.B.Board.view c.turn.new.board) d.2 d.3 (c.in-Some.ensures.reads d.1 d.3.told_left stop)
