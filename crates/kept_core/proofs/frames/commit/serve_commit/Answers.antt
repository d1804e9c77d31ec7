use Rattle.std.proofs.Common.{sym, ◌∙◌, refl, true}
use Rattle.kept_manifests.specs.Slots.{stored_of}
use Rattle.component_package.specs.declared.answer.Answer.TheVariants.{Committed, NoManifest, NotLinked}
use Rattle.mote_laws.specs.Stands.{commit_frame}
use Rattle.kept_core.proofs.Works.{idle, served_so}
use Rattle.kept_core.proofs.Rows.{current_number, incoming_is, nothing_incoming, commit_again, commit_none, commit_unlinked}
use Rattle.kept_core.proofs.Commits.{commit_works, commit_does}
use Rattle.kept_laws.specs.Steps.{with_gate, other_go}
use Rattle.kept_journal.specs.Steps.{parts, CommitStep, IsLinked, commits, one_page}
use Rattle.kept_core.proofs.Wears.{idle_starts, takes_idle, go_low}
use Rattle.kept_core.proofs.Formats.{stays_here, stays_becomes, committed_formatted}
use Rattle.kept_core.proofs.frames.commit.serve_commit.Goals as goal

pub returns-then-standing-clause-works : goal.returns-then-standing-clause-works
returns-then-standing-clause-works g c z t told stands is = idle t commit_frame z 1 _ told stands

pub returns-then-standing-clause-does : goal.returns-then-standing-clause-does
returns-then-standing-clause-does g c z t told stands is =
    served_so t commit_frame (Committed c.args.standing.now.current.manifest.release) z (g.B.Board.view c.args.board.now) told stands (commit_again t _ (sym is.standing ∙ c.if-standing.true) (current_number t _ is))

pub returns-in_default-clause-works : goal.returns-in_default-clause-works
returns-in_default-clause-works g c z t told stands is = idle t commit_frame z 1 _ told stands

pub returns-in_default-clause-does : goal.returns-in_default-clause-does
returns-in_default-clause-does g c z t told stands is =
    served_so t commit_frame NoManifest z (g.B.Board.view c.args.board.now) told stands (commit_none t (sym is.standing ∙ c.if-standing.false) (nothing_incoming t _ is c.in_default.is))

pub returns-then-not-standing-clause-works : goal.returns-then-not-standing-clause-works
returns-then-not-standing-clause-works g c z t told stands is = idle t commit_frame z 1 _ told stands

pub returns-then-not-standing-clause-does : goal.returns-then-not-standing-clause-does
returns-then-not-standing-clause-does g c z t told stands is =
    served_so t commit_frame NotLinked z (g.B.Board.view c.args.board.now) told stands
    (commit_unlinked t _ (sym is.standing ∙ c.if-standing.false) (incoming_is t _ c.in-Some.incoming is c.in-Some.is) (sym is.linked ∙ c.if-not-standing.true))

pub returns-in_err-go-clause-works : goal.returns-in_err-go-clause-works
returns-in_err-go-clause-works g c z t told stands is = commit_works z t _ _ stands (sym is.linked ∙ c.if-not-standing.false) (c.go.ensures.each z told)

pub returns-clause-works : goal.returns-clause-works
returns-clause-works g c z t told stands is = commit_works z t _ _ stands (sym is.linked ∙ c.if-not-standing.false) (c.go.ensures.each z told)

pub returns-clause-does : goal.returns-clause-does
returns-clause-does g c z t told stands is =
    commit_does z t (stored_of c.in-Some.incoming) _ _ stands (sym is.standing ∙ c.if-standing.false) (incoming_is t _ c.in-Some.incoming is c.in-Some.is) (sym is.linked ∙ c.if-not-standing.false) refl (c.in_ok-go.ensures.ok z told)

pub returns-then-standing-clause-idle : goal.returns-then-standing-clause-idle
returns-then-standing-clause-idle g c z told = idle_starts (g.B.Board.view c.args.board.now)

pub returns-then-standing-clause-formatted : goal.returns-then-standing-clause-formatted
returns-then-standing-clause-formatted g c z told is = stays_here z (g.B.Board.view c.args.board.now) told

pub returns-in_default-clause-idle : goal.returns-in_default-clause-idle
returns-in_default-clause-idle g c z told = idle_starts (g.B.Board.view c.args.board.now)

pub returns-in_default-clause-formatted : goal.returns-in_default-clause-formatted
returns-in_default-clause-formatted g c z told is = stays_here z (g.B.Board.view c.args.board.now) told

pub returns-then-not-standing-clause-idle : goal.returns-then-not-standing-clause-idle
returns-then-not-standing-clause-idle g c z told = idle_starts (g.B.Board.view c.args.board.now)

pub returns-then-not-standing-clause-formatted : goal.returns-then-not-standing-clause-formatted
returns-then-not-standing-clause-formatted g c z told is = stays_here z (g.B.Board.view c.args.board.now) told

pub returns-in_err-go-clause-idle : goal.returns-in_err-go-clause-idle
returns-in_err-go-clause-idle g c z told = takes_idle (CommitStep (one_page (other_go (parts z))) z) (one_page (other_go (parts z))) 1 (g.B.Board.view c.args.board.now) (g.B.Board.view c.go.new.board) (go_low (parts z)) (c.go.ensures.each z told)

pub returns-clause-idle : goal.returns-clause-idle
returns-clause-idle g c z told = takes_idle (CommitStep (one_page (other_go (parts z))) z) (one_page (other_go (parts z))) 1 (g.B.Board.view c.args.board.now) (g.B.Board.view c.go.new.board) (go_low (parts z)) (c.go.ensures.each z told)

pub returns-clause-formatted : goal.returns-clause-formatted
returns-clause-formatted g c z told is = stays_becomes (with_gate (other_go (parts z)) true (parts z)) IsLinked commits z (g.B.Board.view c.go.new.board) (c.in_ok-go.ensures.ok z told)
    (λ none. absurd (committed_formatted (parts z) c.args.standing.now c.in-Some.incoming is c.if-standing.false c.in-Some.is none))
