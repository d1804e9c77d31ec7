use Rattle.std.proofs.Common.{Some, refl, ◌∙◌, ap, arith}
use Rattle.std.specs.List.{concat}
use Rattle.kept_core.specs.Commands.{image_pages}
use Rattle.kept_core.proofs.Images.{sends_starts, sends_read, sends_not, sends_page, sent_none, sent_page, sent_all, length-image, pages_sent, flash_not_done, line_not_done}
use Rattle.kept_core.proofs.reports.send_pages.Goals as goal

pub loop-page-init : goal.loop-page-init
loop-page-init g c = record {
  state = λ s told. told ∙ ap Some (sent_none (image_pages c.args.staged s) s);
  each = λ s told. sends_starts (concat (image_pages c.args.staged s)) _ s told;
  left = refl;
  flash = refl;
  line = refl;
}

pub returns-in_default-clause-sends : goal.returns-in_default-clause-sends
returns-in_default-clause-sends g c = λ s told.
    sends_not (concat (image_pages c.args.staged s)) _ s _ _ flash_not_done (sends_read (concat (image_pages c.args.staged s)) _ _ _ s (c.loop-page.invariant.each s told) c.read_page.ensures.reads)

pub returns-in_default-send_all-clause-sends : goal.returns-in_default-send_all-clause-sends
returns-in_default-send_all-clause-sends g c = λ s told.
    let pages = image_pages c.args.staged s in
    let n = c.loop-page.page in
    let there = c.loop-page.invariant.state s told in
    let sent = c.send_all.ensures.sent (pages_sent n pages s) (c.read_page.ensures.reads.state ∙ there) in
    sends_not (concat pages) _ s _ _ line_not_done
    (sends_page pages n _ _ (g.B.Board.view c.loop-page.board) (g.B.Board.view c.read_page.new.board) _ s sent.1 (omega (arith, length-image c.args.staged s ((g.B.Board.view c.args.board.now).sizes s told), c.loop-page-test.true)) (c.in-Ok.ensures.page (pages_sent n pages s) there) (c.loop-page.invariant.each s told) there c.read_page.ensures.reads c.send_all.ensures.line sent.2)

pub loop-page-preserved : goal.loop-page-preserved
loop-page-preserved g c = record {
  state = λ s told.
      let pages = image_pages c.args.staged s in
      let n = c.loop-page.page in
      let there = c.loop-page.invariant.state s told in
      let sent = c.in-Ok-send_all.ensures.sent (pages_sent n pages s) (c.read_page.ensures.reads.state ∙ there) in
      sent.2 ∙ ap Some (sent_page pages n _ sent.0 s sent.1 (omega (arith, length-image c.args.staged s ((g.B.Board.view c.args.board.now).sizes s told), c.loop-page-test.true)) (c.in-Ok.ensures.page (pages_sent n pages s) there) sent.3 sent.4);
  each = λ s told.
      let pages = image_pages c.args.staged s in
      let n = c.loop-page.page in
      let there = c.loop-page.invariant.state s told in
      let sent = c.send_all.ensures.sent (pages_sent n pages s) (c.read_page.ensures.reads.state ∙ there) in
      sends_page pages n _ _ (g.B.Board.view c.loop-page.board) (g.B.Board.view c.read_page.new.board) _ s sent.1 (omega (arith, length-image c.args.staged s ((g.B.Board.view c.args.board.now).sizes s told), c.loop-page-test.true)) (c.in-Ok.ensures.page (pages_sent n pages s) there) (c.loop-page.invariant.each s told) there c.read_page.ensures.reads c.send_all.ensures.line sent.2;
  left = c.send_all.ensures.left ∙ c.read_page.ensures.reads.uses.left ∙ c.loop-page.invariant.left;
  flash = c.send_all.ensures.line.flash ∙ c.in-Ok.ensures.faults ∙ c.loop-page.invariant.flash;
  line = c.in-Ok-send_all.ensures.no_fault ∙ c.read_page.ensures.reads.uses.line ∙ c.loop-page.invariant.line;
}

pub returns-clause-sends : goal.returns-clause-sends
returns-clause-sends g c = λ s told.
    sent_all (image_pages c.args.staged s) c.loop-page.page _ _ s _ (omega (arith, length-image c.args.staged s ((g.B.Board.view c.args.board.now).sizes s told))) (c.loop-page.invariant.each s told) (c.loop-page.invariant.state s told)
