use Rattle.std.proofs.Common.{true, false, [], refl, arith}
use Rattle.component_package.specs.declared.answer.Answer.TheVariants.{Ended}
use Rattle.mote_laws.specs.Stands.{commit_frame}
use Rattle.kept_core.specs.Reading.{frame_of}
use Rattle.kept_core.specs.Frames.{link_frame, status_frame, abort_frame}
use Rattle.kept_core.proofs.FrameKinds.{bare, same_frame, kind_frame, end_frame}
use Rattle.kept_core.proofs.Dispatch.{known_works, known_does, read_works, read_does, tells_works, tells_does}
use Rattle.kept_core.proofs.Wears.{idle_starts, idle_read, same_wears}
use Rattle.kept_core.proofs.Formats.{stays_here, line_answers, end_answers}
use Rattle.kept_core.proofs.serving.serve_known.Goals as goal

pub returns-in_default-clause-works : goal.returns-in_default-clause-works
returns-in_default-clause-works g c =
    known_works c.args.standing.now (frame_of c.args.kind c.args.payload.now) (frame_of 1 c.args.payload.now) (kind_frame c.args.kind 1 c.args.payload.now c.if-kind-eq-MANIFEST.true) (g.B.Board.view c.args.board.now) (g.B.Board.view c.serve_manifest.new.board) c.in_default.ensures.works

pub returns-then-kind-eq-MANIFEST-clause-works : goal.returns-then-kind-eq-MANIFEST-clause-works
returns-then-kind-eq-MANIFEST-clause-works g c =
    known_works c.args.standing.now (frame_of c.args.kind c.args.payload.now) (frame_of 1 c.args.payload.now) (kind_frame c.args.kind 1 c.args.payload.now c.if-kind-eq-MANIFEST.true) (g.B.Board.view c.args.board.now) (g.B.Board.view c.serve_manifest.new.board) c.in-Ok.ensures.works

pub returns-then-kind-eq-MANIFEST-clause-does : goal.returns-then-kind-eq-MANIFEST-clause-does
returns-then-kind-eq-MANIFEST-clause-does g c =
    known_does c.args.standing.now (frame_of c.args.kind c.args.payload.now) (frame_of 1 c.args.payload.now) (kind_frame c.args.kind 1 c.args.payload.now c.if-kind-eq-MANIFEST.true) (g.B.Board.view c.args.board.now) (g.B.Board.view c.serve_manifest.new.board) c.in-Ok.answer c.in-Ok.ensures.does

pub returns-in_default-serve_piece-clause-works : goal.returns-in_default-serve_piece-clause-works
returns-in_default-serve_piece-clause-works g c =
    known_works c.args.standing.now (frame_of c.args.kind c.args.payload.now) (frame_of 2 c.args.payload.now) (kind_frame c.args.kind 2 c.args.payload.now c.if-kind-eq-PIECE.true) (g.B.Board.view c.args.board.now) (g.B.Board.view c.serve_piece.new.board) c.in_default-serve_piece.ensures.works

pub returns-then-kind-eq-PIECE-clause-works : goal.returns-then-kind-eq-PIECE-clause-works
returns-then-kind-eq-PIECE-clause-works g c =
    known_works c.args.standing.now (frame_of c.args.kind c.args.payload.now) (frame_of 2 c.args.payload.now) (kind_frame c.args.kind 2 c.args.payload.now c.if-kind-eq-PIECE.true) (g.B.Board.view c.args.board.now) (g.B.Board.view c.serve_piece.new.board) c.in-Ok-serve_piece.ensures.works

pub returns-then-kind-eq-PIECE-clause-does : goal.returns-then-kind-eq-PIECE-clause-does
returns-then-kind-eq-PIECE-clause-does g c =
    known_does c.args.standing.now (frame_of c.args.kind c.args.payload.now) (frame_of 2 c.args.payload.now) (kind_frame c.args.kind 2 c.args.payload.now c.if-kind-eq-PIECE.true) (g.B.Board.view c.args.board.now) (g.B.Board.view c.serve_piece.new.board) c.in-Ok-serve_piece.answer c.in-Ok-serve_piece.ensures.does

pub returns-in_default-serve_link-clause-works : goal.returns-in_default-serve_link-clause-works
returns-in_default-serve_link-clause-works g c =
    read_works c.args.standing.now (frame_of c.args.kind c.args.payload.now) link_frame (same_frame c.args.kind 3 c.args.payload.now c.if-kind-eq-LINK.true (bare c.args.kind c.args.payload.now c.requires.good (omega (arith, c.if-kind-eq-LINK.true)))) (g.B.Board.view c.args.board.now) (g.B.Board.view c.serve_link.new.board) c.in_default-serve_link.ensures.works

pub returns-then-kind-eq-LINK-clause-works : goal.returns-then-kind-eq-LINK-clause-works
returns-then-kind-eq-LINK-clause-works g c =
    read_works c.args.standing.now (frame_of c.args.kind c.args.payload.now) link_frame (same_frame c.args.kind 3 c.args.payload.now c.if-kind-eq-LINK.true (bare c.args.kind c.args.payload.now c.requires.good (omega (arith, c.if-kind-eq-LINK.true)))) (g.B.Board.view c.args.board.now) (g.B.Board.view c.serve_link.new.board) c.in-Ok-serve_link.ensures.works

pub returns-then-kind-eq-LINK-clause-does : goal.returns-then-kind-eq-LINK-clause-does
returns-then-kind-eq-LINK-clause-does g c =
    read_does c.args.standing.now (frame_of c.args.kind c.args.payload.now) link_frame (same_frame c.args.kind 3 c.args.payload.now c.if-kind-eq-LINK.true (bare c.args.kind c.args.payload.now c.requires.good (omega (arith, c.if-kind-eq-LINK.true)))) (g.B.Board.view c.args.board.now) (g.B.Board.view c.serve_link.new.board) c.in-Ok-serve_link.answer c.in-Ok-serve_link.ensures.does

pub returns-in_default-serve_commit-clause-works : goal.returns-in_default-serve_commit-clause-works
returns-in_default-serve_commit-clause-works g c =
    known_works c.args.standing.now (frame_of c.args.kind c.args.payload.now) commit_frame (same_frame c.args.kind 4 c.args.payload.now c.if-kind-eq-COMMIT.true (bare c.args.kind c.args.payload.now c.requires.good (omega (arith, c.if-kind-eq-COMMIT.true)))) (g.B.Board.view c.args.board.now) (g.B.Board.view c.serve_commit.new.board) c.in_default-serve_commit.ensures.works

pub returns-then-kind-eq-COMMIT-clause-works : goal.returns-then-kind-eq-COMMIT-clause-works
returns-then-kind-eq-COMMIT-clause-works g c =
    known_works c.args.standing.now (frame_of c.args.kind c.args.payload.now) commit_frame (same_frame c.args.kind 4 c.args.payload.now c.if-kind-eq-COMMIT.true (bare c.args.kind c.args.payload.now c.requires.good (omega (arith, c.if-kind-eq-COMMIT.true)))) (g.B.Board.view c.args.board.now) (g.B.Board.view c.serve_commit.new.board) c.in-Ok-serve_commit.ensures.works

pub returns-then-kind-eq-COMMIT-clause-does : goal.returns-then-kind-eq-COMMIT-clause-does
returns-then-kind-eq-COMMIT-clause-does g c =
    known_does c.args.standing.now (frame_of c.args.kind c.args.payload.now) commit_frame (same_frame c.args.kind 4 c.args.payload.now c.if-kind-eq-COMMIT.true (bare c.args.kind c.args.payload.now c.requires.good (omega (arith, c.if-kind-eq-COMMIT.true)))) (g.B.Board.view c.args.board.now) (g.B.Board.view c.serve_commit.new.board) c.in-Ok-serve_commit.answer c.in-Ok-serve_commit.ensures.does

pub returns-then-kind-eq-STATUS-clause-works : goal.returns-then-kind-eq-STATUS-clause-works
returns-then-kind-eq-STATUS-clause-works g c =
    tells_works c.args.standing.now (frame_of c.args.kind c.args.payload.now) (g.B.Board.view c.args.board.now)

pub returns-then-kind-eq-STATUS-clause-does : goal.returns-then-kind-eq-STATUS-clause-does
returns-then-kind-eq-STATUS-clause-does g c =
    tells_does c.args.standing.now (frame_of c.args.kind c.args.payload.now) status_frame (g.B.Board.view c.args.board.now) c.status_of.result (same_frame c.args.kind 6 c.args.payload.now c.if-kind-eq-STATUS.true (bare c.args.kind c.args.payload.now c.requires.good (omega (arith, c.if-kind-eq-STATUS.true)))) c.status_of.ensures.answer (λ t. refl)

pub returns-in_default-serve_abort-clause-works : goal.returns-in_default-serve_abort-clause-works
returns-in_default-serve_abort-clause-works g c =
    known_works c.args.standing.now (frame_of c.args.kind c.args.payload.now) abort_frame (same_frame c.args.kind 7 c.args.payload.now c.if-kind-eq-ABORT.true (bare c.args.kind c.args.payload.now c.requires.good (omega (arith, c.if-kind-eq-ABORT.true)))) (g.B.Board.view c.args.board.now) (g.B.Board.view c.serve_abort.new.board) c.in_default-serve_abort.ensures.works

pub returns-then-kind-eq-ABORT-clause-works : goal.returns-then-kind-eq-ABORT-clause-works
returns-then-kind-eq-ABORT-clause-works g c =
    known_works c.args.standing.now (frame_of c.args.kind c.args.payload.now) abort_frame (same_frame c.args.kind 7 c.args.payload.now c.if-kind-eq-ABORT.true (bare c.args.kind c.args.payload.now c.requires.good (omega (arith, c.if-kind-eq-ABORT.true)))) (g.B.Board.view c.args.board.now) (g.B.Board.view c.serve_abort.new.board) c.in-Ok-serve_abort.ensures.works

pub returns-then-kind-eq-ABORT-clause-does : goal.returns-then-kind-eq-ABORT-clause-does
returns-then-kind-eq-ABORT-clause-does g c =
    known_does c.args.standing.now (frame_of c.args.kind c.args.payload.now) abort_frame (same_frame c.args.kind 7 c.args.payload.now c.if-kind-eq-ABORT.true (bare c.args.kind c.args.payload.now c.requires.good (omega (arith, c.if-kind-eq-ABORT.true)))) (g.B.Board.view c.args.board.now) (g.B.Board.view c.serve_abort.new.board) c.in-Ok-serve_abort.answer c.in-Ok-serve_abort.ensures.does

pub returns-clause-works : goal.returns-clause-works
returns-clause-works g c =
    tells_works c.args.standing.now (frame_of c.args.kind c.args.payload.now) (g.B.Board.view c.args.board.now)

pub returns-clause-does : goal.returns-clause-does
returns-clause-does g c =
    tells_does c.args.standing.now (frame_of c.args.kind c.args.payload.now) (frame_of 8 []) (g.B.Board.view c.args.board.now) Ended (end_frame c.args.kind c.args.payload.now c.requires.good c.if-kind-eq-MANIFEST.false c.if-kind-eq-PIECE.false c.if-kind-eq-LINK.false c.if-kind-eq-COMMIT.false c.requires.other c.if-kind-eq-STATUS.false c.if-kind-eq-ABORT.false) (λ t is. refl) (λ t. refl)

pub returns-in_default-clause-wear : goal.returns-in_default-clause-wear
returns-in_default-clause-wear g c = idle_read false c.args.standing.now (frame_of c.args.kind c.args.payload.now) (g.B.Board.view c.args.board.now) (g.B.Board.view c.serve_manifest.new.board) c.in_default.ensures.idle

pub returns-then-kind-eq-MANIFEST-clause-wear : goal.returns-then-kind-eq-MANIFEST-clause-wear
returns-then-kind-eq-MANIFEST-clause-wear g c = idle_read true c.args.standing.now (frame_of c.args.kind c.args.payload.now) (g.B.Board.view c.args.board.now) (g.B.Board.view c.serve_manifest.new.board) c.in-Ok.ensures.idle

pub returns-then-kind-eq-MANIFEST-clause-formatted : goal.returns-then-kind-eq-MANIFEST-clause-formatted
returns-then-kind-eq-MANIFEST-clause-formatted g c z told is = c.in-Ok.ensures.formatted z told

pub returns-then-kind-eq-MANIFEST-clause-ended : goal.returns-then-kind-eq-MANIFEST-clause-ended
returns-then-kind-eq-MANIFEST-clause-ended g c = line_answers c.args.kind c.args.payload.now c.in-Ok.answer (λ e. omega (arith, e, c.if-kind-eq-MANIFEST.true)) c.in-Ok.ensures.line

pub returns-in_default-serve_piece-clause-wear : goal.returns-in_default-serve_piece-clause-wear
returns-in_default-serve_piece-clause-wear g c = idle_read false c.args.standing.now (frame_of c.args.kind c.args.payload.now) (g.B.Board.view c.args.board.now) (g.B.Board.view c.serve_piece.new.board) c.in_default-serve_piece.ensures.idle

pub returns-then-kind-eq-PIECE-clause-wear : goal.returns-then-kind-eq-PIECE-clause-wear
returns-then-kind-eq-PIECE-clause-wear g c = idle_read true c.args.standing.now (frame_of c.args.kind c.args.payload.now) (g.B.Board.view c.args.board.now) (g.B.Board.view c.serve_piece.new.board) c.in-Ok-serve_piece.ensures.idle

pub returns-then-kind-eq-PIECE-clause-formatted : goal.returns-then-kind-eq-PIECE-clause-formatted
returns-then-kind-eq-PIECE-clause-formatted g c z told is = c.in-Ok-serve_piece.ensures.formatted z told

pub returns-then-kind-eq-PIECE-clause-ended : goal.returns-then-kind-eq-PIECE-clause-ended
returns-then-kind-eq-PIECE-clause-ended g c = line_answers c.args.kind c.args.payload.now c.in-Ok-serve_piece.answer (λ e. omega (arith, e, c.if-kind-eq-PIECE.true)) c.in-Ok-serve_piece.ensures.line

pub returns-in_default-serve_link-clause-wear : goal.returns-in_default-serve_link-clause-wear
returns-in_default-serve_link-clause-wear g c = same_wears false c.args.standing.now (frame_of c.args.kind c.args.payload.now) link_frame (same_frame c.args.kind 3 c.args.payload.now c.if-kind-eq-LINK.true (bare c.args.kind c.args.payload.now c.requires.good (omega (arith, c.if-kind-eq-LINK.true)))) (g.B.Board.view c.args.board.now) (g.B.Board.view c.serve_link.new.board) c.in_default-serve_link.ensures.wear

pub returns-then-kind-eq-LINK-clause-wear : goal.returns-then-kind-eq-LINK-clause-wear
returns-then-kind-eq-LINK-clause-wear g c = same_wears true c.args.standing.now (frame_of c.args.kind c.args.payload.now) link_frame (same_frame c.args.kind 3 c.args.payload.now c.if-kind-eq-LINK.true (bare c.args.kind c.args.payload.now c.requires.good (omega (arith, c.if-kind-eq-LINK.true)))) (g.B.Board.view c.args.board.now) (g.B.Board.view c.serve_link.new.board) c.in-Ok-serve_link.ensures.wear

pub returns-then-kind-eq-LINK-clause-formatted : goal.returns-then-kind-eq-LINK-clause-formatted
returns-then-kind-eq-LINK-clause-formatted g c z told is = c.in-Ok-serve_link.ensures.formatted z told

pub returns-then-kind-eq-LINK-clause-ended : goal.returns-then-kind-eq-LINK-clause-ended
returns-then-kind-eq-LINK-clause-ended g c = line_answers c.args.kind c.args.payload.now c.in-Ok-serve_link.answer (λ e. omega (arith, e, c.if-kind-eq-LINK.true)) c.in-Ok-serve_link.ensures.line

pub returns-in_default-serve_commit-clause-wear : goal.returns-in_default-serve_commit-clause-wear
returns-in_default-serve_commit-clause-wear g c = idle_read false c.args.standing.now (frame_of c.args.kind c.args.payload.now) (g.B.Board.view c.args.board.now) (g.B.Board.view c.serve_commit.new.board) c.in_default-serve_commit.ensures.idle

pub returns-then-kind-eq-COMMIT-clause-wear : goal.returns-then-kind-eq-COMMIT-clause-wear
returns-then-kind-eq-COMMIT-clause-wear g c = idle_read true c.args.standing.now (frame_of c.args.kind c.args.payload.now) (g.B.Board.view c.args.board.now) (g.B.Board.view c.serve_commit.new.board) c.in-Ok-serve_commit.ensures.idle

pub returns-then-kind-eq-COMMIT-clause-formatted : goal.returns-then-kind-eq-COMMIT-clause-formatted
returns-then-kind-eq-COMMIT-clause-formatted g c z told is = c.in-Ok-serve_commit.ensures.formatted z told is

pub returns-then-kind-eq-COMMIT-clause-ended : goal.returns-then-kind-eq-COMMIT-clause-ended
returns-then-kind-eq-COMMIT-clause-ended g c = line_answers c.args.kind c.args.payload.now c.in-Ok-serve_commit.answer (λ e. omega (arith, e, c.if-kind-eq-COMMIT.true)) c.in-Ok-serve_commit.ensures.line

pub returns-in_default-serve_abort-clause-wear : goal.returns-in_default-serve_abort-clause-wear
returns-in_default-serve_abort-clause-wear g c = idle_read false c.args.standing.now (frame_of c.args.kind c.args.payload.now) (g.B.Board.view c.args.board.now) (g.B.Board.view c.serve_abort.new.board) c.in_default-serve_abort.ensures.idle

pub returns-then-kind-eq-ABORT-clause-wear : goal.returns-then-kind-eq-ABORT-clause-wear
returns-then-kind-eq-ABORT-clause-wear g c = idle_read true c.args.standing.now (frame_of c.args.kind c.args.payload.now) (g.B.Board.view c.args.board.now) (g.B.Board.view c.serve_abort.new.board) c.in-Ok-serve_abort.ensures.idle

pub returns-then-kind-eq-ABORT-clause-formatted : goal.returns-then-kind-eq-ABORT-clause-formatted
returns-then-kind-eq-ABORT-clause-formatted g c z told is = c.in-Ok-serve_abort.ensures.formatted z told

pub returns-then-kind-eq-ABORT-clause-ended : goal.returns-then-kind-eq-ABORT-clause-ended
returns-then-kind-eq-ABORT-clause-ended g c = line_answers c.args.kind c.args.payload.now c.in-Ok-serve_abort.answer (λ e. omega (arith, e, c.if-kind-eq-ABORT.true)) c.in-Ok-serve_abort.ensures.line

pub returns-then-kind-eq-STATUS-clause-wear : goal.returns-then-kind-eq-STATUS-clause-wear
returns-then-kind-eq-STATUS-clause-wear g c = idle_read true c.args.standing.now (frame_of c.args.kind c.args.payload.now) (g.B.Board.view c.args.board.now) (g.B.Board.view c.args.board.now) (λ s told. idle_starts (g.B.Board.view c.args.board.now))

pub returns-then-kind-eq-STATUS-clause-formatted : goal.returns-then-kind-eq-STATUS-clause-formatted
returns-then-kind-eq-STATUS-clause-formatted g c z told is = stays_here z (g.B.Board.view c.args.board.now) told

pub returns-then-kind-eq-STATUS-clause-ended : goal.returns-then-kind-eq-STATUS-clause-ended
returns-then-kind-eq-STATUS-clause-ended g c = line_answers c.args.kind c.args.payload.now c.status_of.result (λ e. omega (arith, e, c.if-kind-eq-STATUS.true)) c.status_of.ensures.line

pub returns-clause-wear : goal.returns-clause-wear
returns-clause-wear g c = idle_read true c.args.standing.now (frame_of c.args.kind c.args.payload.now) (g.B.Board.view c.args.board.now) (g.B.Board.view c.args.board.now) (λ s told. idle_starts (g.B.Board.view c.args.board.now))

pub returns-clause-formatted : goal.returns-clause-formatted
returns-clause-formatted g c z told is = stays_here z (g.B.Board.view c.args.board.now) told

pub returns-clause-ended : goal.returns-clause-ended
returns-clause-ended g c =
    end_answers (frame_of c.args.kind c.args.payload.now) (end_frame c.args.kind c.args.payload.now c.requires.good c.if-kind-eq-MANIFEST.false c.if-kind-eq-PIECE.false c.if-kind-eq-LINK.false c.if-kind-eq-COMMIT.false c.requires.other c.if-kind-eq-STATUS.false c.if-kind-eq-ABORT.false)
