use Rattle.std.proofs.Common.{◌≡◌, ℕ, List, false, not, ltb, length, drop, take, ◌-◌, Some, None, refl, sym, ap, ◌∙◌, subst, arith}
use Rattle.std.specs.Prelude.{slice_index}
use Rattle.std.proofs.lemmas.Bool.{le-ltb}
use Rattle.std.proofs.lemmas.List.{take_rest}
use Rattle.flash_pages.specs.State.{with_page, ext_pages}
use Rattle.component_package.specs.mote.Page.{filled_page}
use Rattle.component_package.specs.declared.answer.Answer.TheVariants.{Reboot, NoManifest, BadPiece}
use Rattle.kept_manifests.specs.Slots.{stored_of}
use Rattle.component_store.specs.Pieces.{piece_fault, piece_place}
use Rattle.component_store.proofs.SlotBytes.{page_below}
use Rattle.kept_core.specs.Reading.{frame_of}
use Rattle.kept_core.specs.Frames.{placed_of}
use Rattle.kept_core.proofs.Works.{idle, only_read, weaker_read, served_so}
use Rattle.kept_core.proofs.Rows.{standing_row, current_number, incoming_is, nothing_incoming}
use Rattle.kept_core.proofs.Pieces.{fits, unfit, same_page, is_there, Differs, PutSlots, piece_none, piece_short, piece_no_entry, piece_unfit, piece_held, piece_there, piece_new, unlinks_first, puts_then, put_does}
use Rattle.kept_journal.specs.Steps.{parts, Step, any_mote, unlinks, unlinked}
use Rattle.kept_core.proofs.Wears.{idle_starts, idle_reads, idle_then, takes_idle, low_pages, piece_idle}
use Rattle.kept_core.proofs.Formats.{stays_here, stays_piece}
use Rattle.kept_core.proofs.frames.piece.serve_piece.Goals as goal

pub returns-then-standing-clause-works : goal.returns-then-standing-clause-works
returns-then-standing-clause-works g c z t told stands is =
    idle t (frame_of 2 c.args.payload.now) z 4 _ told stands

pub returns-then-standing-clause-does : goal.returns-then-standing-clause-does
returns-then-standing-clause-does g c z t told stands is =
    served_so t (frame_of 2 c.args.payload.now) (Reboot c.args.standing.now.current.manifest.release) z (g.B.Board.view c.args.board.now) told stands (standing_row t _ _ (sym is.standing ∙ c.if-standing.true) (current_number t _ is))

pub returns-in_default-clause-works : goal.returns-in_default-clause-works
returns-in_default-clause-works g c z t told stands is =
    idle t (frame_of 2 c.args.payload.now) z 4 _ told stands

pub returns-in_default-clause-does : goal.returns-in_default-clause-does
returns-in_default-clause-does g c z t told stands is =
    served_so t (frame_of 2 c.args.payload.now) NoManifest z (g.B.Board.view c.args.board.now) told stands (piece_none t c.args.payload.now (sym is.standing ∙ c.if-standing.false) (nothing_incoming t c.args.standing.now is c.in_default.is))

pub returns-then-payload-lt3-clause-works : goal.returns-then-payload-lt3-clause-works
returns-then-payload-lt3-clause-works g c z t told stands is =
    idle t (frame_of 2 c.args.payload.now) z 4 _ told stands

pub returns-then-payload-lt3-clause-does : goal.returns-then-payload-lt3-clause-does
returns-then-payload-lt3-clause-does g c z t told stands is =
    let rests = sym is.standing ∙ c.if-standing.false in
    let m = stored_of c.in-Some.incoming in
    let coming = incoming_is t c.args.standing.now c.in-Some.incoming is c.in-Some.is in
    served_so t (frame_of 2 c.args.payload.now) BadPiece z (g.B.Board.view c.args.board.now) told stands (piece_short t c.args.payload.now m rests coming c.if-payload-lt3.true)

pub returns-in_default-entry_at-clause-works : goal.returns-in_default-entry_at-clause-works
returns-in_default-entry_at-clause-works g c z t told stands is =
    idle t (frame_of 2 c.args.payload.now) z 4 _ told stands

pub returns-in_default-entry_at-clause-does : goal.returns-in_default-entry_at-clause-does
returns-in_default-entry_at-clause-does g c z t told stands is =
    let rests = sym is.standing ∙ c.if-standing.false in
    let m = stored_of c.in-Some.incoming in
    let coming = incoming_is t c.args.standing.now c.in-Some.incoming is c.in-Some.is in
    let three = c.if-payload-lt3.false in
    let long : ltb (length c.args.payload.now) 3 ≡ false = le-ltb (length c.args.payload.now) 3 (omega arith) in
    served_so t (frame_of 2 c.args.payload.now) BadPiece z (g.B.Board.view c.args.board.now) told stands (piece_no_entry t c.args.payload.now m rests coming long (c.entry_at.ensures.none c.in_default-entry_at.is))

pub returns-then-is_failed-clause-works : goal.returns-then-is_failed-clause-works
returns-then-is_failed-clause-works g c z t told stands is =
    only_read t (frame_of 2 c.args.payload.now) z 4 (g.B.Board.view c.args.board.now) (g.B.Board.view c.piece_differs.new.board) told stands c.piece_differs.ensures.reads

pub returns-in-Err-clause-works : goal.returns-in-Err-clause-works
returns-in-Err-clause-works g c z t told stands is =
    only_read t (frame_of 2 c.args.payload.now) z 4 (g.B.Board.view c.args.board.now) (g.B.Board.view c.piece_differs.new.board) told stands c.piece_differs.ensures.reads

pub returns-in-Err-clause-does : goal.returns-in-Err-clause-does
returns-in-Err-clause-does g c z t told stands is =
    let rests = sym is.standing ∙ c.if-standing.false in
    let m = stored_of c.in-Some.incoming in
    let coming = incoming_is t c.args.standing.now c.in-Some.incoming is c.in-Some.is in
    let three = c.if-payload-lt3.false in
    let long : ltb (length c.args.payload.now) 3 ≡ false = le-ltb (length c.args.payload.now) 3 (omega arith) in
    let p = placed_of c.in-Some-entry_at.stored in
    let here = c.in-Some-entry_at.ensures.there in
    let whole = take_rest c.args.payload.now 2 in
    let calm = sym c.is_failed.ensures ∙ c.if-is_failed.false in
    let bad : piece_fault p.entry.length (slice_index c.args.payload.now 1) (length (drop 2 c.args.payload.now)) ≡ Some c.in-Err.fault = ap (λ (b : List ℕ). piece_fault p.entry.length (slice_index c.args.payload.now 1) (length b)) (sym whole) ∙ sym (c.in-Err.ensures.refused calm) in
    served_so t (frame_of 2 c.args.payload.now) BadPiece z (g.B.Board.view c.piece_differs.new.board) (c.piece_differs.ensures.reads.state ∙ told) stands (piece_unfit t c.args.payload.now m rests coming long p here (unfit p.entry.length (slice_index c.args.payload.now 1) (drop 2 c.args.payload.now) c.in-Err.fault bad))

pub returns-then-not-fresh-clause-works : goal.returns-then-not-fresh-clause-works
returns-then-not-fresh-clause-works g c z t told stands is =
    only_read t (frame_of 2 c.args.payload.now) z 4 (g.B.Board.view c.args.board.now) (g.B.Board.view c.piece_differs.new.board) told stands c.piece_differs.ensures.reads

pub returns-then-not-fresh-clause-does : goal.returns-then-not-fresh-clause-does
returns-then-not-fresh-clause-does g c z t told stands is =
    let rests = sym is.standing ∙ c.if-standing.false in
    let m = stored_of c.in-Some.incoming in
    let coming = incoming_is t c.args.standing.now c.in-Some.incoming is c.in-Some.is in
    let three = c.if-payload-lt3.false in
    let long : ltb (length c.args.payload.now) 3 ≡ false = le-ltb (length c.args.payload.now) 3 (omega arith) in
    let p = placed_of c.in-Some-entry_at.stored in
    let here = c.in-Some-entry_at.ensures.there in
    let whole = take_rest c.args.payload.now 2 in
    let good : piece_fault p.entry.length (slice_index c.args.payload.now 1) (length (drop 2 c.args.payload.now)) ≡ None = ap (λ (b : List ℕ). piece_fault p.entry.length (slice_index c.args.payload.now 1) (length b)) (sym whole) ∙ sym (c.in-Ok.ensures.refused refl) in
    let fit = fits p.entry.length (slice_index c.args.payload.now 1) (drop 2 c.args.payload.now) good in
    let low = c.in-Some-entry_at.ensures.slot in
    let within = page_below p.entry.length (slice_index c.args.payload.now 1) (length (drop 2 c.args.payload.now)) c.in-Some-entry_at.ensures.entry.most good in
    served_so t (frame_of 2 c.args.payload.now) _ z (g.B.Board.view c.piece_differs.new.board) (c.piece_differs.ensures.reads.state ∙ told) stands (piece_held t c.args.payload.now m rests coming long p here fit c.if-not-fresh.true)

pub returns-then-not-differs-clause-works : goal.returns-then-not-differs-clause-works
returns-then-not-differs-clause-works g c z t told stands is =
    only_read t (frame_of 2 c.args.payload.now) z 4 (g.B.Board.view c.args.board.now) (g.B.Board.view c.piece_differs.new.board) told stands c.piece_differs.ensures.reads

pub returns-then-not-differs-clause-does : goal.returns-then-not-differs-clause-does
returns-then-not-differs-clause-does g c z t told stands is =
    let rests = sym is.standing ∙ c.if-standing.false in
    let m = stored_of c.in-Some.incoming in
    let coming = incoming_is t c.args.standing.now c.in-Some.incoming is c.in-Some.is in
    let three = c.if-payload-lt3.false in
    let long : ltb (length c.args.payload.now) 3 ≡ false = le-ltb (length c.args.payload.now) 3 (omega arith) in
    let p = placed_of c.in-Some-entry_at.stored in
    let here = c.in-Some-entry_at.ensures.there in
    let whole = take_rest c.args.payload.now 2 in
    let good : piece_fault p.entry.length (slice_index c.args.payload.now 1) (length (drop 2 c.args.payload.now)) ≡ None = ap (λ (b : List ℕ). piece_fault p.entry.length (slice_index c.args.payload.now 1) (length b)) (sym whole) ∙ sym (c.in-Ok.ensures.refused refl) in
    let fit = fits p.entry.length (slice_index c.args.payload.now 1) (drop 2 c.args.payload.now) good in
    let low = c.in-Some-entry_at.ensures.slot in
    let within = page_below p.entry.length (slice_index c.args.payload.now 1) (length (drop 2 c.args.payload.now)) c.in-Some-entry_at.ensures.entry.most good in
    let there = ap (λ (s : List (List ℕ)). is_there s p.slot (slice_index c.args.payload.now 1) (drop 2 c.args.payload.now)) stands.mote.inbox ∙ same_page z ((g.B.Board.view c.args.board.now).sizes z told) p.slot (slice_index c.args.payload.now 1) (drop 2 c.args.payload.now) c.in-Ok.differs low within (subst (λ (b : List ℕ). Differs z p.slot (slice_index c.args.payload.now 1) b c.in-Ok.differs) whole (c.in-Ok.ensures.answer z told)) in
    served_so t (frame_of 2 c.args.payload.now) _ z (g.B.Board.view c.piece_differs.new.board) (c.piece_differs.ensures.reads.state ∙ told) stands (piece_there t c.args.payload.now m rests coming long p here fit c.if-not-fresh.false (there ∙ ap not c.if-not-differs.true))

pub returns-in_err-unlink-clause-works : goal.returns-in_err-unlink-clause-works
returns-in_err-unlink-clause-works g c z t told stands is =
    let rests = sym is.standing ∙ c.if-standing.false in
    let m = stored_of c.in-Some.incoming in
    let coming = incoming_is t c.args.standing.now c.in-Some.incoming is c.in-Some.is in
    let three = c.if-payload-lt3.false in
    let long : ltb (length c.args.payload.now) 3 ≡ false = le-ltb (length c.args.payload.now) 3 (omega arith) in
    let p = placed_of c.in-Some-entry_at.stored in
    let here = c.in-Some-entry_at.ensures.there in
    let whole = take_rest c.args.payload.now 2 in
    let good : piece_fault p.entry.length (slice_index c.args.payload.now 1) (length (drop 2 c.args.payload.now)) ≡ None = ap (λ (b : List ℕ). piece_fault p.entry.length (slice_index c.args.payload.now 1) (length b)) (sym whole) ∙ sym (c.in-Ok.ensures.refused refl) in
    let fit = fits p.entry.length (slice_index c.args.payload.now 1) (drop 2 c.args.payload.now) good in
    let low = c.in-Some-entry_at.ensures.slot in
    let within = page_below p.entry.length (slice_index c.args.payload.now 1) (length (drop 2 c.args.payload.now)) c.in-Some-entry_at.ensures.entry.most good in
    weaker_read t (frame_of 2 c.args.payload.now) z 3 4 (g.B.Board.view c.args.board.now) (g.B.Board.view c.piece_differs.new.board) (g.B.Board.view c.unlink.new.board) told stands c.piece_differs.ensures.reads (omega arith) (unlinks_first z t m p c.args.payload.now stands coming here low within (g.B.Board.view c.piece_differs.new.board) _ (c.unlink.ensures.each z (c.piece_differs.ensures.reads.state ∙ told)))

pub returns-in-Ok-put_piece-clause-works : goal.returns-in-Ok-put_piece-clause-works
returns-in-Ok-put_piece-clause-works g c z t told stands is =
    let rests = sym is.standing ∙ c.if-standing.false in
    let m = stored_of c.in-Some.incoming in
    let coming = incoming_is t c.args.standing.now c.in-Some.incoming is c.in-Some.is in
    let three = c.if-payload-lt3.false in
    let long : ltb (length c.args.payload.now) 3 ≡ false = le-ltb (length c.args.payload.now) 3 (omega arith) in
    let p = placed_of c.in-Some-entry_at.stored in
    let here = c.in-Some-entry_at.ensures.there in
    let whole = take_rest c.args.payload.now 2 in
    let good : piece_fault p.entry.length (slice_index c.args.payload.now 1) (length (drop 2 c.args.payload.now)) ≡ None = ap (λ (b : List ℕ). piece_fault p.entry.length (slice_index c.args.payload.now 1) (length b)) (sym whole) ∙ sym (c.in-Ok.ensures.refused refl) in
    let fit = fits p.entry.length (slice_index c.args.payload.now 1) (drop 2 c.args.payload.now) good in
    let low = c.in-Some-entry_at.ensures.slot in
    let within = page_below p.entry.length (slice_index c.args.payload.now 1) (length (drop 2 c.args.payload.now)) c.in-Some-entry_at.ensures.entry.most good in
    let done = c.in_ok-unlink.ensures.ok z (c.piece_differs.ensures.reads.state ∙ told) in
    let first = unlinks_first z t m p c.args.payload.now stands coming here low within (g.B.Board.view c.piece_differs.new.board) (g.B.Board.view c.unlink.new.board) (c.unlink.ensures.each z (c.piece_differs.ensures.reads.state ∙ told)) in
    weaker_read t (frame_of 2 c.args.payload.now) z 4 4 (g.B.Board.view c.args.board.now) (g.B.Board.view c.piece_differs.new.board) (g.B.Board.view c.put_piece.new.board) told stands c.piece_differs.ensures.reads (omega arith)
    (puts_then z t m p c.args.payload.now stands coming here low within rests done.end done.parts_are (done.stands t stands tt) _ (g.B.Board.view c.piece_differs.new.board) (g.B.Board.view c.unlink.new.board) (g.B.Board.view c.put_piece.new.board) done.told first c.put_piece.ensures.programs)

pub returns-in-Err-put_piece-clause-works : goal.returns-in-Err-put_piece-clause-works
returns-in-Err-put_piece-clause-works g c z t told stands is =
    let rests = sym is.standing ∙ c.if-standing.false in
    let m = stored_of c.in-Some.incoming in
    let coming = incoming_is t c.args.standing.now c.in-Some.incoming is c.in-Some.is in
    let three = c.if-payload-lt3.false in
    let long : ltb (length c.args.payload.now) 3 ≡ false = le-ltb (length c.args.payload.now) 3 (omega arith) in
    let p = placed_of c.in-Some-entry_at.stored in
    let here = c.in-Some-entry_at.ensures.there in
    let whole = take_rest c.args.payload.now 2 in
    let good : piece_fault p.entry.length (slice_index c.args.payload.now 1) (length (drop 2 c.args.payload.now)) ≡ None = ap (λ (b : List ℕ). piece_fault p.entry.length (slice_index c.args.payload.now 1) (length b)) (sym whole) ∙ sym (c.in-Ok.ensures.refused refl) in
    let fit = fits p.entry.length (slice_index c.args.payload.now 1) (drop 2 c.args.payload.now) good in
    let low = c.in-Some-entry_at.ensures.slot in
    let within = page_below p.entry.length (slice_index c.args.payload.now 1) (length (drop 2 c.args.payload.now)) c.in-Some-entry_at.ensures.entry.most good in
    let done = c.in_ok-unlink.ensures.ok z (c.piece_differs.ensures.reads.state ∙ told) in
    let first = unlinks_first z t m p c.args.payload.now stands coming here low within (g.B.Board.view c.piece_differs.new.board) (g.B.Board.view c.unlink.new.board) (c.unlink.ensures.each z (c.piece_differs.ensures.reads.state ∙ told)) in
    weaker_read t (frame_of 2 c.args.payload.now) z 4 4 (g.B.Board.view c.args.board.now) (g.B.Board.view c.piece_differs.new.board) (g.B.Board.view c.put_piece.new.board) told stands c.piece_differs.ensures.reads (omega arith)
    (puts_then z t m p c.args.payload.now stands coming here low within rests done.end done.parts_are (done.stands t stands tt) _ (g.B.Board.view c.piece_differs.new.board) (g.B.Board.view c.unlink.new.board) (g.B.Board.view c.put_piece.new.board) done.told first c.put_piece.ensures.programs)

pub returns-in-Ok-put_piece-clause-does : goal.returns-in-Ok-put_piece-clause-does
returns-in-Ok-put_piece-clause-does g c z t told stands is =
    let rests = sym is.standing ∙ c.if-standing.false in
    let m = stored_of c.in-Some.incoming in
    let coming = incoming_is t c.args.standing.now c.in-Some.incoming is c.in-Some.is in
    let three = c.if-payload-lt3.false in
    let long : ltb (length c.args.payload.now) 3 ≡ false = le-ltb (length c.args.payload.now) 3 (omega arith) in
    let p = placed_of c.in-Some-entry_at.stored in
    let here = c.in-Some-entry_at.ensures.there in
    let whole = take_rest c.args.payload.now 2 in
    let good : piece_fault p.entry.length (slice_index c.args.payload.now 1) (length (drop 2 c.args.payload.now)) ≡ None = ap (λ (b : List ℕ). piece_fault p.entry.length (slice_index c.args.payload.now 1) (length b)) (sym whole) ∙ sym (c.in-Ok.ensures.refused refl) in
    let fit = fits p.entry.length (slice_index c.args.payload.now 1) (drop 2 c.args.payload.now) good in
    let low = c.in-Some-entry_at.ensures.slot in
    let within = page_below p.entry.length (slice_index c.args.payload.now 1) (length (drop 2 c.args.payload.now)) c.in-Some-entry_at.ensures.entry.most good in
    let there = ap (λ (s : List (List ℕ)). is_there s p.slot (slice_index c.args.payload.now 1) (drop 2 c.args.payload.now)) stands.mote.inbox ∙ same_page z ((g.B.Board.view c.args.board.now).sizes z told) p.slot (slice_index c.args.payload.now 1) (drop 2 c.args.payload.now) c.in-Ok.differs low within (subst (λ (b : List ℕ). Differs z p.slot (slice_index c.args.payload.now 1) b c.in-Ok.differs) whole (c.in-Ok.ensures.answer z told)) in
    let done = c.in_ok-unlink.ensures.ok z (c.piece_differs.ensures.reads.state ∙ told) in
    let x = with_page done.end (piece_place p.slot (slice_index c.args.payload.now 1)) (filled_page (take (length c.args.payload.now - 2) (drop 2 c.args.payload.now))) in
    let new = c.in-Ok-put_piece.ensures.ok done.end done.told in
    put_does z t m p c.args.payload.now stands coming here low within rests done.end done.parts_are (done.stands t stands tt) x (g.B.Board.view c.put_piece.new.board) _ new
    (ap (λ (b : List ℕ). with_page done.end (piece_place p.slot (slice_index c.args.payload.now 1)) (filled_page b)) whole)
    (subst (λ (b : List ℕ). PutSlots done.end p.slot (slice_index c.args.payload.now 1) b x) whole (c.in-Ok-put_piece.ensures.slots done.end x done.told new))
    (piece_new t c.args.payload.now m rests coming long p here fit c.if-not-fresh.false (there ∙ ap not c.if-not-differs.false)) refl

pub returns-then-standing-clause-idle : goal.returns-then-standing-clause-idle
returns-then-standing-clause-idle g c z told = idle_starts (g.B.Board.view c.args.board.now)

pub returns-then-standing-clause-formatted : goal.returns-then-standing-clause-formatted
returns-then-standing-clause-formatted g c z told = stays_here z (g.B.Board.view c.args.board.now) told

pub returns-in_default-clause-idle : goal.returns-in_default-clause-idle
returns-in_default-clause-idle g c z told = idle_starts (g.B.Board.view c.args.board.now)

pub returns-in_default-clause-formatted : goal.returns-in_default-clause-formatted
returns-in_default-clause-formatted g c z told = stays_here z (g.B.Board.view c.args.board.now) told

pub returns-then-payload-lt3-clause-idle : goal.returns-then-payload-lt3-clause-idle
returns-then-payload-lt3-clause-idle g c z told = idle_starts (g.B.Board.view c.args.board.now)

pub returns-then-payload-lt3-clause-formatted : goal.returns-then-payload-lt3-clause-formatted
returns-then-payload-lt3-clause-formatted g c z told = stays_here z (g.B.Board.view c.args.board.now) told

pub returns-in_default-entry_at-clause-idle : goal.returns-in_default-entry_at-clause-idle
returns-in_default-entry_at-clause-idle g c z told = idle_starts (g.B.Board.view c.args.board.now)

pub returns-in_default-entry_at-clause-formatted : goal.returns-in_default-entry_at-clause-formatted
returns-in_default-entry_at-clause-formatted g c z told = stays_here z (g.B.Board.view c.args.board.now) told

pub returns-then-is_failed-clause-idle : goal.returns-then-is_failed-clause-idle
returns-then-is_failed-clause-idle g c z told = idle_reads (g.B.Board.view c.args.board.now) (g.B.Board.view c.piece_differs.new.board) c.piece_differs.ensures.reads

pub returns-in-Err-clause-idle : goal.returns-in-Err-clause-idle
returns-in-Err-clause-idle g c z told = idle_reads (g.B.Board.view c.args.board.now) (g.B.Board.view c.piece_differs.new.board) c.piece_differs.ensures.reads

pub returns-in-Err-clause-formatted : goal.returns-in-Err-clause-formatted
returns-in-Err-clause-formatted g c z told = stays_here z (g.B.Board.view c.piece_differs.new.board) (c.piece_differs.ensures.reads.state ∙ told)

pub returns-then-not-fresh-clause-idle : goal.returns-then-not-fresh-clause-idle
returns-then-not-fresh-clause-idle g c z told = idle_reads (g.B.Board.view c.args.board.now) (g.B.Board.view c.piece_differs.new.board) c.piece_differs.ensures.reads

pub returns-then-not-fresh-clause-formatted : goal.returns-then-not-fresh-clause-formatted
returns-then-not-fresh-clause-formatted g c z told = stays_here z (g.B.Board.view c.piece_differs.new.board) (c.piece_differs.ensures.reads.state ∙ told)

pub returns-then-not-differs-clause-idle : goal.returns-then-not-differs-clause-idle
returns-then-not-differs-clause-idle g c z told = idle_reads (g.B.Board.view c.args.board.now) (g.B.Board.view c.piece_differs.new.board) c.piece_differs.ensures.reads

pub returns-then-not-differs-clause-formatted : goal.returns-then-not-differs-clause-formatted
returns-then-not-differs-clause-formatted g c z told = stays_here z (g.B.Board.view c.piece_differs.new.board) (c.piece_differs.ensures.reads.state ∙ told)

pub returns-in_err-unlink-clause-idle : goal.returns-in_err-unlink-clause-idle
returns-in_err-unlink-clause-idle g c z told = idle_then (g.B.Board.view c.args.board.now) (g.B.Board.view c.piece_differs.new.board) (g.B.Board.view c.unlink.new.board) (idle_reads (g.B.Board.view c.args.board.now) (g.B.Board.view c.piece_differs.new.board) c.piece_differs.ensures.reads) (takes_idle (Step any_mote (ext_pages 2 4) z) (ext_pages 2 4) 3 (g.B.Board.view c.piece_differs.new.board) (g.B.Board.view c.unlink.new.board) (low_pages 2 4 (omega arith)) (c.unlink.ensures.each z (c.piece_differs.ensures.reads.state ∙ told)))

pub returns-in-Ok-put_piece-clause-idle : goal.returns-in-Ok-put_piece-clause-idle
returns-in-Ok-put_piece-clause-idle g c z told =
    let three = c.if-payload-lt3.false in
    let p = placed_of c.in-Some-entry_at.stored in
    let whole = take_rest c.args.payload.now 2 in
    let good : piece_fault p.entry.length (slice_index c.args.payload.now 1) (length (drop 2 c.args.payload.now)) ≡ None = ap (λ (b : List ℕ). piece_fault p.entry.length (slice_index c.args.payload.now 1) (length b)) (sym whole) ∙ sym (c.in-Ok.ensures.refused refl) in
    let low = c.in-Some-entry_at.ensures.slot in
    let within = page_below p.entry.length (slice_index c.args.payload.now 1) (length (drop 2 c.args.payload.now)) c.in-Some-entry_at.ensures.entry.most good in
    let done = c.in_ok-unlink.ensures.ok z (c.piece_differs.ensures.reads.state ∙ told) in
    idle_then (g.B.Board.view c.args.board.now) (g.B.Board.view c.piece_differs.new.board) (g.B.Board.view c.put_piece.new.board) (idle_reads (g.B.Board.view c.args.board.now) (g.B.Board.view c.piece_differs.new.board) c.piece_differs.ensures.reads) (idle_then (g.B.Board.view c.piece_differs.new.board) (g.B.Board.view c.unlink.new.board) (g.B.Board.view c.put_piece.new.board) (takes_idle (Step any_mote (ext_pages 2 4) z) (ext_pages 2 4) 3 (g.B.Board.view c.piece_differs.new.board) (g.B.Board.view c.unlink.new.board) (low_pages 2 4 (omega arith)) (c.unlink.ensures.each z (c.piece_differs.ensures.reads.state ∙ told))) (piece_idle _ _ _ done.end (g.B.Board.view c.unlink.new.board) (g.B.Board.view c.put_piece.new.board) low within done.told c.put_piece.ensures.programs))

pub returns-in-Err-put_piece-clause-idle : goal.returns-in-Err-put_piece-clause-idle
returns-in-Err-put_piece-clause-idle g c z told =
    let three = c.if-payload-lt3.false in
    let p = placed_of c.in-Some-entry_at.stored in
    let whole = take_rest c.args.payload.now 2 in
    let good : piece_fault p.entry.length (slice_index c.args.payload.now 1) (length (drop 2 c.args.payload.now)) ≡ None = ap (λ (b : List ℕ). piece_fault p.entry.length (slice_index c.args.payload.now 1) (length b)) (sym whole) ∙ sym (c.in-Ok.ensures.refused refl) in
    let low = c.in-Some-entry_at.ensures.slot in
    let within = page_below p.entry.length (slice_index c.args.payload.now 1) (length (drop 2 c.args.payload.now)) c.in-Some-entry_at.ensures.entry.most good in
    let done = c.in_ok-unlink.ensures.ok z (c.piece_differs.ensures.reads.state ∙ told) in
    idle_then (g.B.Board.view c.args.board.now) (g.B.Board.view c.piece_differs.new.board) (g.B.Board.view c.put_piece.new.board) (idle_reads (g.B.Board.view c.args.board.now) (g.B.Board.view c.piece_differs.new.board) c.piece_differs.ensures.reads) (idle_then (g.B.Board.view c.piece_differs.new.board) (g.B.Board.view c.unlink.new.board) (g.B.Board.view c.put_piece.new.board) (takes_idle (Step any_mote (ext_pages 2 4) z) (ext_pages 2 4) 3 (g.B.Board.view c.piece_differs.new.board) (g.B.Board.view c.unlink.new.board) (low_pages 2 4 (omega arith)) (c.unlink.ensures.each z (c.piece_differs.ensures.reads.state ∙ told))) (piece_idle _ _ _ done.end (g.B.Board.view c.unlink.new.board) (g.B.Board.view c.put_piece.new.board) low within done.told c.put_piece.ensures.programs))

pub returns-in-Ok-put_piece-clause-formatted : goal.returns-in-Ok-put_piece-clause-formatted
returns-in-Ok-put_piece-clause-formatted g c z told =
    let three = c.if-payload-lt3.false in
    let p = placed_of c.in-Some-entry_at.stored in
    let whole = take_rest c.args.payload.now 2 in
    let good : piece_fault p.entry.length (slice_index c.args.payload.now 1) (length (drop 2 c.args.payload.now)) ≡ None = ap (λ (b : List ℕ). piece_fault p.entry.length (slice_index c.args.payload.now 1) (length b)) (sym whole) ∙ sym (c.in-Ok.ensures.refused refl) in
    let low = c.in-Some-entry_at.ensures.slot in
    let within = page_below p.entry.length (slice_index c.args.payload.now 1) (length (drop 2 c.args.payload.now)) c.in-Some-entry_at.ensures.entry.most good in
    let done = c.in_ok-unlink.ensures.ok z (c.piece_differs.ensures.reads.state ∙ told) in
    stays_piece (unlinked (parts z)) any_mote unlinks z (g.B.Board.view c.unlink.new.board) (g.B.Board.view c.put_piece.new.board) p.slot (slice_index c.args.payload.now 1) _ done (λ none. none) low within (c.in-Ok-put_piece.ensures.ok done.end done.told)
