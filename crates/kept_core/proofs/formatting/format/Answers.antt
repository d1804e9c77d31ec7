use Rattle.std.proofs.Common.{Some, ◌∙◌, ap}
use Rattle.kept_core.specs.Format.{cleared, emptied}
use Rattle.kept_core.proofs.Emptying.{ready, ready_opened, stops_clear, stops_blank, stops_gate, sends_line, has_formatted}
use Rattle.kept_core.proofs.formatting.format.Goals as goal

pub returns-in_default-clause-each : goal.returns-in_default-clause-each
returns-in_default-clause-each g c s told = stops_clear (g.B.Board.view c.args.board.now) (g.B.Board.view c.clear_ext.new.board) s ((g.B.Board.view c.args.board.now).sizes s told) (c.clear_ext.ensures.each s told)

pub returns-in_default-blank_prog-clause-each : goal.returns-in_default-blank_prog-clause-each
returns-in_default-blank_prog-clause-each g c s told =
    stops_blank (g.B.Board.view c.args.board.now) (g.B.Board.view c.clear_ext.new.board) s ((g.B.Board.view c.args.board.now).sizes s told) (c.clear_ext.ensures.each s told) (g.B.Board.view c.blank_prog.new.board) (c.blank_prog.ensures.each (cleared 2048 s) (c.in-Ok.ensures.ok s told))

pub returns-in_default-open_gate-clause-each : goal.returns-in_default-open_gate-clause-each
returns-in_default-open_gate-clause-each g c s told =
    let there = c.in-Ok.ensures.ok s told in
    let blank = c.in-Ok-blank_prog.ensures.ok (cleared 2048 s) there in
    let run = stops_gate (g.B.Board.view c.args.board.now) (g.B.Board.view c.clear_ext.new.board) s ((g.B.Board.view c.args.board.now).sizes s told) (c.clear_ext.ensures.each s told) (g.B.Board.view c.blank_prog.new.board) (c.blank_prog.ensures.each (cleared 2048 s) there) (g.B.Board.view c.open_gate.new.board) blank c.open_gate.ensures.programs in
    run

pub returns-in_default-send_all-clause-each : goal.returns-in_default-send_all-clause-each
returns-in_default-send_all-clause-each g c s told =
    let there = c.in-Ok.ensures.ok s told in
    let blank = c.in-Ok-blank_prog.ensures.ok (cleared 2048 s) there in
    let run = stops_gate (g.B.Board.view c.args.board.now) (g.B.Board.view c.clear_ext.new.board) s ((g.B.Board.view c.args.board.now).sizes s told) (c.clear_ext.ensures.each s told) (g.B.Board.view c.blank_prog.new.board) (c.blank_prog.ensures.each (cleared 2048 s) there) (g.B.Board.view c.open_gate.new.board) blank c.open_gate.ensures.programs in
    let empty = c.in-Ok-open_gate.ensures.ok (ready s) blank ∙ ap Some (ready_opened s ((g.B.Board.view c.args.board.now).sizes s told)) in
    let sent = c.in_default-send_all.ensures.sent (emptied s) empty in
    sends_line (g.B.Board.view c.args.board.now) (g.B.Board.view c.open_gate.new.board) (g.B.Board.view c.send_all.new.board) s sent.1 ((g.B.Board.view c.args.board.now).sizes s told) run empty sent.2 c.in_default-send_all.ensures.line

pub returns-clause-each : goal.returns-clause-each
returns-clause-each g c s told =
    let there = c.in-Ok.ensures.ok s told in
    let blank = c.in-Ok-blank_prog.ensures.ok (cleared 2048 s) there in
    let run = stops_gate (g.B.Board.view c.args.board.now) (g.B.Board.view c.clear_ext.new.board) s ((g.B.Board.view c.args.board.now).sizes s told) (c.clear_ext.ensures.each s told) (g.B.Board.view c.blank_prog.new.board) (c.blank_prog.ensures.each (cleared 2048 s) there) (g.B.Board.view c.open_gate.new.board) blank c.open_gate.ensures.programs in
    let empty = c.in-Ok-open_gate.ensures.ok (ready s) blank ∙ ap Some (ready_opened s ((g.B.Board.view c.args.board.now).sizes s told)) in
    let sent = c.in-Ok-send_all.ensures.sent (emptied s) empty in
    sends_line (g.B.Board.view c.args.board.now) (g.B.Board.view c.open_gate.new.board) (g.B.Board.view c.send_all.new.board) s sent.1 ((g.B.Board.view c.args.board.now).sizes s told) run empty sent.2 c.in-Ok-send_all.ensures.line

pub returns-clause-done : goal.returns-clause-done
returns-clause-done g c ended s told =
    let there = c.in-Ok.ensures.ok s told in
    let blank = c.in-Ok-blank_prog.ensures.ok (cleared 2048 s) there in
    let run = stops_gate (g.B.Board.view c.args.board.now) (g.B.Board.view c.clear_ext.new.board) s ((g.B.Board.view c.args.board.now).sizes s told) (c.clear_ext.ensures.each s told) (g.B.Board.view c.blank_prog.new.board) (c.blank_prog.ensures.each (cleared 2048 s) there) (g.B.Board.view c.open_gate.new.board) blank c.open_gate.ensures.programs in
    let empty = c.in-Ok-open_gate.ensures.ok (ready s) blank ∙ ap Some (ready_opened s ((g.B.Board.view c.args.board.now).sizes s told)) in
    let sent = c.in-Ok-send_all.ensures.sent (emptied s) empty in
    has_formatted s sent.1 sent.0 (g.B.Board.view c.send_all.new.board) sent.2 sent.3 sent.4
