use Rattle.std.proofs.Common.{ap, ◌∙◌, ⊎_elim}
use Rattle.kept_core.specs.Reading.{served_of, payload_of, frame_of}
use Rattle.kept_core.proofs.Turns.{stop_of, framed, turn_stopped, turn_lost, turn_fault, turn_end, turn_cut, turn_goes, never_unformatted}
use Rattle.std.proofs.lemmas.Bool.{false≢true, false_from_ne_true}
use Rattle.kept_core.specs.declared.status.Status.TheVariants.{Ended, CutFrame, TooLong, FlashFault, LineFault, Budget}
use Rattle.kept_core.proofs.Readings.{reads_none, reads_end, reads_on, stays_sent, stays_over, stays_on}
use Rattle.kept_core.proofs.run.turn.Goals as goal

pub returns-in-Err-clause-turns : goal.returns-in-Err-clause-turns
returns-in-Err-clause-turns g c z l t told told_left stands =
    let e = c.in-Err.ensures in
    turn_lost (served_of c.args.session.now) (g.B.Board.view c.args.board.now) (g.B.Board.view c.next_frame.new.board) z l t told stands e.state e.line (λ all. e.budget all l told_left) (e.left l told_left)

pub returns-in-Ok-InputEnd-clause-turns : goal.returns-in-Ok-InputEnd-clause-turns
returns-in-Ok-InputEnd-clause-turns g c z l t told told_left stands =
    let e = c.in-Ok-InputEnd.ensures in
    turn_stopped c.in-Ok-InputEnd.field-0 c.args.session.now _ 0 _ (g.B.Board.view c.args.board.now) (g.B.Board.view c.next_frame.new.board) z l t (ap stop_of c.in-Ok-InputEnd.field-0-is) told stands e.state e.line (λ all. e.budget all l told_left) e.served (e.left l told_left)

pub returns-in-Ok-CutFrame-clause-turns : goal.returns-in-Ok-CutFrame-clause-turns
returns-in-Ok-CutFrame-clause-turns g c z l t told told_left stands =
    let e = c.in-Ok-CutFrame.ensures in
    turn_stopped c.in-Ok-CutFrame.field-0 c.args.session.now _ 2 _ (g.B.Board.view c.args.board.now) (g.B.Board.view c.next_frame.new.board) z l t (ap stop_of c.in-Ok-CutFrame.field-0-is) told stands e.state e.line (λ all. e.budget all l told_left) e.served (e.left l told_left)

pub returns-in-Ok-TooLong-clause-turns : goal.returns-in-Ok-TooLong-clause-turns
returns-in-Ok-TooLong-clause-turns g c z l t told told_left stands =
    let e = c.in-Ok-TooLong.ensures in
    turn_stopped c.in-Ok-TooLong.field-0 c.args.session.now _ 3 _ (g.B.Board.view c.args.board.now) (g.B.Board.view c.next_frame.new.board) z l t (ap stop_of c.in-Ok-TooLong.field-0-is) told stands e.state e.line (λ all. e.budget all l told_left) e.served (e.left l told_left)

pub returns-in-Ok-Budget-clause-turns : goal.returns-in-Ok-Budget-clause-turns
returns-in-Ok-Budget-clause-turns g c z l t told told_left stands =
    let e = c.in-Ok-Budget.ensures in
    turn_stopped c.in-Ok-Budget.field-0 c.args.session.now _ 7 _ (g.B.Board.view c.args.board.now) (g.B.Board.view c.next_frame.new.board) z l t (ap stop_of c.in-Ok-Budget.field-0-is) told stands e.state e.line (λ all. e.budget all l told_left) e.served (e.left l told_left)

pub returns-in_default-clause-turns : goal.returns-in_default-clause-turns
returns-in_default-clause-turns g c z l t told told_left stands =
    let e = c.in-Ok-Frame.ensures in
    let r = framed c.in-Ok-Frame.field-0 c.in-Ok-Frame.kind _ _ (g.B.Board.view c.next_frame.new.board) c.in-Ok-Frame.field-0-is (e.left l told_left) in
    let room = rw c.in-Ok-Frame.field-0-is at e.served in
    let d = c.in_default.ensures in
    let works = rw c.payload.ensures at d.works in
    turn_fault (served_of c.args.session.now) (g.B.Board.view c.args.board.now) (g.B.Board.view c.next_frame.new.board) z l r.0 t _ told stands room.0 r.2 r.3 e.state e.line
    (g.B.Board.view c.serve_one.new.board) works (d.uses.left ∙ r.1)

pub returns-in-Ended-clause-turns : goal.returns-in-Ended-clause-turns
returns-in-Ended-clause-turns g c z l t told told_left stands =
    let e = c.in-Ok-Frame.ensures in
    let r = framed c.in-Ok-Frame.field-0 c.in-Ok-Frame.kind _ _ (g.B.Board.view c.next_frame.new.board) c.in-Ok-Frame.field-0-is (e.left l told_left) in
    let room = rw c.in-Ok-Frame.field-0-is at e.served in
    let d = c.in-Ok.ensures in
    let works = rw c.payload.ensures at d.works in
    let does = rw c.payload.ensures at d.answer in
    turn_end (served_of c.args.session.now) (g.B.Board.view c.args.board.now) (g.B.Board.view c.next_frame.new.board) z l r.0 t _ told stands room.0 r.2 r.3 e.state e.line
    (g.B.Board.view c.serve_one.new.board) c.in-Ok.answer c.in-Ended.is works does (d.uses.left ∙ r.1)

pub returns-in-Unformatted-clause-turns : goal.returns-in-Unformatted-clause-turns
returns-in-Unformatted-clause-turns g c z l t told told_left stands =
    let e = c.in-Ok-Frame.ensures in
    let does = rw c.payload.ensures at c.in-Ok.ensures.answer in
    absurd (never_unformatted (frame_of c.in-Ok-Frame.kind (payload_of c.next_frame.new.self)) (g.B.Board.view c.next_frame.new.board) (g.B.Board.view c.serve_one.new.board) z t c.in-Ok.answer (e.state ∙ told) stands does c.in-Unformatted.is)

pub returns-in-Err-send_line-clause-turns : goal.returns-in-Err-send_line-clause-turns
returns-in-Err-send_line-clause-turns g c z l t told told_left stands =
    let e = c.in-Ok-Frame.ensures in
    let r = framed c.in-Ok-Frame.field-0 c.in-Ok-Frame.kind _ _ (g.B.Board.view c.next_frame.new.board) c.in-Ok-Frame.field-0-is (e.left l told_left) in
    let room = rw c.in-Ok-Frame.field-0-is at e.served in
    let d = c.in-Ok.ensures in
    let works = rw c.payload.ensures at d.works in
    let does = rw c.payload.ensures at d.answer in
    let s = c.in-Err-send_line.ensures in
    turn_cut (served_of c.args.session.now) (g.B.Board.view c.args.board.now) (g.B.Board.view c.next_frame.new.board) z l r.0 t _ told stands room.0 r.2 r.3 e.state e.line
    (g.B.Board.view c.serve_one.new.board) (g.B.Board.view c.send_line.new.board) c.in-Ok.answer works does (s.left ∙ (d.uses.left ∙ r.1)) s.line (λ y told_y. let x = s.sent y told_y in (x.0, x.1, x.2, x.3))

pub returns-in-Ok-send_line-clause-turns : goal.returns-in-Ok-send_line-clause-turns
returns-in-Ok-send_line-clause-turns g c z l t told told_left stands =
    let e = c.in-Ok-Frame.ensures in
    let r = framed c.in-Ok-Frame.field-0 c.in-Ok-Frame.kind _ _ (g.B.Board.view c.next_frame.new.board) c.in-Ok-Frame.field-0-is (e.left l told_left) in
    let room = rw c.in-Ok-Frame.field-0-is at e.served in
    let d = c.in-Ok.ensures in
    let works = rw c.payload.ensures at d.works in
    let does = rw c.payload.ensures at d.answer in
    let s = c.in-Ok-send_line.ensures in
    turn_goes (served_of c.args.session.now) (g.B.Board.view c.args.board.now) (g.B.Board.view c.next_frame.new.board) z l r.0 t _ told stands room.0 r.2 r.3 e.state e.line
    (g.B.Board.view c.serve_one.new.board) (g.B.Board.view c.send_line.new.board) c.in-Ok.answer works does (s.left ∙ (d.uses.left ∙ r.1)) s.line c.in_default-answer.not-Ended (λ y told_y. let x = s.sent y told_y in (x.0, x.1, x.2, x.3, x.4))

pub returns-in-Ok-InputEnd-clause-reads : goal.returns-in-Ok-InputEnd-clause-reads
returns-in-Ok-InputEnd-clause-reads g c l told_left stop =
    let e = c.in-Ok-InputEnd.ensures in
    reads_none c.in-Ok-InputEnd.field-0 c.args.session.now _ Ended _ l (g.B.Board.view c.next_frame.new.board) (ap stop_of c.in-Ok-InputEnd.field-0-is) e.served (e.left l told_left)

pub returns-in-Ok-InputEnd-clause-formatted : goal.returns-in-Ok-InputEnd-clause-formatted
returns-in-Ok-InputEnd-clause-formatted g c z told = stays_over Ended z (g.B.Board.view c.next_frame.new.board) (λ is. absurd (let q : ⊥ = cc in q))

pub returns-in-Ok-CutFrame-clause-reads : goal.returns-in-Ok-CutFrame-clause-reads
returns-in-Ok-CutFrame-clause-reads g c l told_left stop =
    let e = c.in-Ok-CutFrame.ensures in
    reads_none c.in-Ok-CutFrame.field-0 c.args.session.now _ CutFrame _ l (g.B.Board.view c.next_frame.new.board) (ap stop_of c.in-Ok-CutFrame.field-0-is) e.served (e.left l told_left)

pub returns-in-Ok-CutFrame-clause-formatted : goal.returns-in-Ok-CutFrame-clause-formatted
returns-in-Ok-CutFrame-clause-formatted g c z told = stays_over CutFrame z (g.B.Board.view c.next_frame.new.board) (λ is. absurd (let q : ⊥ = cc in q))

pub returns-in-Ok-TooLong-clause-reads : goal.returns-in-Ok-TooLong-clause-reads
returns-in-Ok-TooLong-clause-reads g c l told_left stop =
    let e = c.in-Ok-TooLong.ensures in
    reads_none c.in-Ok-TooLong.field-0 c.args.session.now _ TooLong _ l (g.B.Board.view c.next_frame.new.board) (ap stop_of c.in-Ok-TooLong.field-0-is) e.served (e.left l told_left)

pub returns-in-Ok-TooLong-clause-formatted : goal.returns-in-Ok-TooLong-clause-formatted
returns-in-Ok-TooLong-clause-formatted g c z told = stays_over TooLong z (g.B.Board.view c.next_frame.new.board) (λ is. absurd (let q : ⊥ = cc in q))

pub returns-in-Ok-Budget-clause-reads : goal.returns-in-Ok-Budget-clause-reads
returns-in-Ok-Budget-clause-reads g c l told_left stop =
    let e = c.in-Ok-Budget.ensures in
    reads_none c.in-Ok-Budget.field-0 c.args.session.now _ Budget _ l (g.B.Board.view c.next_frame.new.board) (ap stop_of c.in-Ok-Budget.field-0-is) e.served (e.left l told_left)

pub returns-in-Ok-Budget-clause-formatted : goal.returns-in-Ok-Budget-clause-formatted
returns-in-Ok-Budget-clause-formatted g c z told = stays_over Budget z (g.B.Board.view c.next_frame.new.board) (λ is. absurd (let q : ⊥ = cc in q))

pub returns-in-Err-clause-formatted : goal.returns-in-Err-clause-formatted
returns-in-Err-clause-formatted g c z told = stays_over LineFault z (g.B.Board.view c.next_frame.new.board) (λ is. absurd (let q : ⊥ = cc in q))

pub returns-in_default-clause-formatted : goal.returns-in_default-clause-formatted
returns-in_default-clause-formatted g c z told = stays_over FlashFault z (g.B.Board.view c.serve_one.new.board) (λ is. absurd (let q : ⊥ = cc in q))

pub returns-in-Ended-clause-formatted : goal.returns-in-Ended-clause-formatted
returns-in-Ended-clause-formatted g c z told = stays_over Ended z (g.B.Board.view c.serve_one.new.board) (λ is. absurd (let q : ⊥ = cc in q))

pub returns-in-Err-send_line-clause-formatted : goal.returns-in-Err-send_line-clause-formatted
returns-in-Err-send_line-clause-formatted g c z told = stays_over LineFault z (g.B.Board.view c.send_line.new.board) (λ is. absurd (let q : ⊥ = cc in q))

pub returns-in-Unformatted-clause-formatted : goal.returns-in-Unformatted-clause-formatted
returns-in-Unformatted-clause-formatted g c z told =
    let e = c.in-Ok-Frame.ensures in
    record {
      only = λ is. ((c.in-Ok.ensures.unformatted z (e.state ∙ told)).only c.in-Unformatted.is).1;
      stays = λ on. absurd (let q : ⊥ = cc in q);
    }

pub returns-in-Ok-send_line-clause-formatted : goal.returns-in-Ok-send_line-clause-formatted
returns-in-Ok-send_line-clause-formatted g c z told =
    let e = c.in-Ok-Frame.ensures in
    let kept = (c.in-Ok.ensures.unformatted z (e.state ∙ told)).stays in
    let x = c.in-Ok-send_line.ensures.sent kept.end kept.told in
    stays_on z (g.B.Board.view c.send_line.new.board) (stays_sent z x.1 (g.B.Board.view c.serve_one.new.board) (g.B.Board.view c.send_line.new.board) x.0 _ kept x.3 x.2)

pub returns-in-Ended-clause-reads : goal.returns-in-Ended-clause-reads
returns-in-Ended-clause-reads g c l told_left stop =
    let e = c.in-Ok-Frame.ensures in
    let r = framed c.in-Ok-Frame.field-0 c.in-Ok-Frame.kind _ _ (g.B.Board.view c.next_frame.new.board) c.in-Ok-Frame.field-0-is (e.left l told_left) in
    let d = c.in-Ok.ensures in
    let ended = rw c.payload.ensures at d.ended in
    reads_end (served_of c.args.session.now) l r.0 (frame_of c.in-Ok-Frame.kind (payload_of c.next_frame.new.self)) (g.B.Board.view c.serve_one.new.board) r.2 r.3 (d.uses.left ∙ r.1) (ended.only c.in-Ended.is)

pub returns-in-Ok-send_line-clause-reads : goal.returns-in-Ok-send_line-clause-reads
returns-in-Ok-send_line-clause-reads g c l told_left stop =
    let e = c.in-Ok-Frame.ensures in
    let r = framed c.in-Ok-Frame.field-0 c.in-Ok-Frame.kind _ _ (g.B.Board.view c.next_frame.new.board) c.in-Ok-Frame.field-0-is (e.left l told_left) in
    let d = c.in-Ok.ensures in
    let ended = rw c.payload.ensures at d.ended in
    reads_on (served_of c.args.session.now) l r.0 (frame_of c.in-Ok-Frame.kind (payload_of c.next_frame.new.self)) (g.B.Board.view c.send_line.new.board) r.2 r.3 (c.in-Ok-send_line.ensures.left ∙ (d.uses.left ∙ r.1))
    (false_from_ne_true _ (λ is. ⊎_elim c.in_default-answer.not-Ended c.in_default-answer.not-Unformatted (ended.always is)))

pub returns-in-Err-clause-reads : goal.returns-in-Err-clause-reads
returns-in-Err-clause-reads g c l told_left stop = absurd (false≢true stop)

pub returns-in_default-clause-reads : goal.returns-in_default-clause-reads
returns-in_default-clause-reads g c l told_left stop = absurd (false≢true stop)

pub returns-in-Unformatted-clause-reads : goal.returns-in-Unformatted-clause-reads
returns-in-Unformatted-clause-reads g c l told_left stop = absurd (false≢true stop)

pub returns-in-Err-send_line-clause-reads : goal.returns-in-Err-send_line-clause-reads
returns-in-Err-send_line-clause-reads g c l told_left stop = absurd (false≢true stop)
