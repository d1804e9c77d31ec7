use Rattle.std.proofs.Common.{true, refl, sym, ap, ◌∙◌, arith}
use Rattle.std.proofs.lemmas.Option.{same_Some}
use Rattle.kept_journal.specs.declared.gates.Stage.TheVariants as stages
use Rattle.kept_stage.specs.Staged.{staged_pages}
use Rattle.kept_core.specs.Serving.{link_pages}
use Rattle.kept_core.proofs.Links.{run_then, weaker_run, has_listed, has_pages, staged_run, staged_linking, staged_vouched, marks_run, staged_done}
use Rattle.kept_core.specs.Links.{comes_of}
use Rattle.kept_core.proofs.Wears.{not_ok, idle_starts, works_mark, becomes_alike, stage_works, stage_spares, mark_idle, staged_between}
use Rattle.kept_journal.specs.Steps.{parts, Step, Rests, Vouches, marks, one_page, stage_gate}
use Rattle.kept_core.proofs.frames.link.make_image.Goals as goal

pub returns-in_err-stage-clause-leaves : goal.returns-in_err-stage-clause-leaves
returns-in_err-stage-clause-leaves g c s told t linking p =
    weaker_run s 480 481 (g.B.Board.view c.args.board.now) (g.B.Board.view c.stage.new.board) (omega arith) (staged_run t c.args.set.now s (g.B.Board.view c.args.board.now) (g.B.Board.view c.stage.new.board) linking p.1 (c.stage.ensures.each s told))

pub returns-in_err-mark-clause-leaves : goal.returns-in_err-mark-clause-leaves
returns-in_err-mark-clause-leaves g c s told t linking p =
    let is_open = p.0 in
    let closed = p.1 in
    let set = c.args.set.now in
    let run = c.stage.ensures.each s told in
    let listing = has_listed t set s linking is_open in
    let pages = has_pages t set s c.requires.set linking listing in
    let has = c.in_ok-stage.ensures.ok s told pages.pages pages.are in
    let are = ap staged_pages (same_Some run.end has.state (sym run.told ∙ has.told)) ∙ has.are in
    let vouched = staged_vouched t set s run.end linking is_open closed run.ends pages are in
    run_then link_pages s run.end 480 1 (g.B.Board.view c.args.board.now) (g.B.Board.view c.stage.new.board) (g.B.Board.view c.mark.new.board) run.told (staged_run t set s (g.B.Board.view c.args.board.now) (g.B.Board.view c.stage.new.board) linking closed run)
    (marks_run t set stages.Image run.end (g.B.Board.view c.stage.new.board) (g.B.Board.view c.mark.new.board) (staged_linking t set s run.end linking closed run.ends) vouched (c.mark.ensures.each run.end run.told))

pub returns-clause-leaves : goal.returns-clause-leaves
returns-clause-leaves g c s told t linking p =
    let is_open = p.0 in
    let closed = p.1 in
    let set = c.args.set.now in
    let run = c.stage.ensures.each s told in
    let listing = has_listed t set s linking is_open in
    let pages = has_pages t set s c.requires.set linking listing in
    let has = c.in_ok-stage.ensures.ok s told pages.pages pages.are in
    let are = ap staged_pages (same_Some run.end has.state (sym run.told ∙ has.told)) ∙ has.are in
    let vouched = staged_vouched t set s run.end linking is_open closed run.ends pages are in
    run_then link_pages s run.end 480 1 (g.B.Board.view c.args.board.now) (g.B.Board.view c.stage.new.board) (g.B.Board.view c.mark.new.board) run.told (staged_run t set s (g.B.Board.view c.args.board.now) (g.B.Board.view c.stage.new.board) linking closed run)
    (marks_run t set stages.Image run.end (g.B.Board.view c.stage.new.board) (g.B.Board.view c.mark.new.board) (staged_linking t set s run.end linking closed run.ends) vouched (c.mark.ensures.each run.end run.told))

pub returns-clause-done : goal.returns-clause-done
returns-clause-done g c s told t linking is_open closed =
    let set = c.args.set.now in
    let run = c.stage.ensures.each s told in
    let listing = has_listed t set s linking is_open in
    let pages = has_pages t set s c.requires.set linking listing in
    let has = c.in_ok-stage.ensures.ok s told pages.pages pages.are in
    let are = ap staged_pages (same_Some run.end has.state (sym run.told ∙ has.told)) ∙ has.are in
    let vouched = staged_vouched t set s run.end linking is_open closed run.ends pages are in
    staged_done t set s run.end (g.B.Board.view c.mark.new.board) (staged_linking t set s run.end linking closed run.ends) vouched listing.free (c.in_ok-mark.ensures.ok run.end run.told)

pub returns-in_err-stage-clause-wears : goal.returns-in_err-stage-clause-wears
returns-in_err-stage-clause-wears g c s told = stage_works _ s (g.B.Board.view c.args.board.now) (g.B.Board.view c.stage.new.board) told (c.stage.ensures.each s told) c.stage.ensures.once

pub returns-in_err-stage-clause-spares : goal.returns-in_err-stage-clause-spares
returns-in_err-stage-clause-spares g c s told t linking is_open =
    let set = c.args.set.now in
    let listing = has_listed t set s linking is_open in
    let pages = has_pages t set s c.requires.set linking listing in
    let sp = stage_spares (comes_of t set) pages.pages s (g.B.Board.view c.args.board.now) (g.B.Board.view c.stage.new.board) pages.image told (c.stage.ensures.wear s told pages.pages pages.are) in
    sp

pub returns-in_err-mark-clause-wears : goal.returns-in_err-mark-clause-wears
returns-in_err-mark-clause-wears g c s told =
    let first = stage_works true s (g.B.Board.view c.args.board.now) (g.B.Board.view c.stage.new.board) told (c.stage.ensures.each s told) c.stage.ensures.once in
    works_mark (λ u. Rests u × Vouches stages.Image (parts first.end)) stages.Image 306 785 true _ s (g.B.Board.view c.args.board.now) (g.B.Board.view c.stage.new.board) (g.B.Board.view c.mark.new.board) first (c.mark.ensures.each first.end first.told)
    (λ yes. absurd (not_ok _ c.from_residual-in_err-mark.result c.from_residual-in_err-mark.ensures.1 yes))

pub returns-in_err-mark-clause-spares : goal.returns-in_err-mark-clause-spares
returns-in_err-mark-clause-spares g c s told t linking is_open =
    let set = c.args.set.now in
    let listing = has_listed t set s linking is_open in
    let pages = has_pages t set s c.requires.set linking listing in
    let sp = stage_spares (comes_of t set) pages.pages s (g.B.Board.view c.args.board.now) (g.B.Board.view c.stage.new.board) pages.image told (c.stage.ensures.wear s told pages.pages pages.are) in
    let run = c.stage.ensures.each s told in
    staged_between (comes_of t set) s (g.B.Board.view c.args.board.now) (g.B.Board.view c.args.board.now) (g.B.Board.view c.stage.new.board) (g.B.Board.view c.mark.new.board) (idle_starts (g.B.Board.view c.args.board.now)) sp (mark_idle (Step (λ u. Rests u × Vouches stages.Image (parts run.end)) (one_page (stage_gate stages.Image)) run.end) stages.Image (g.B.Board.view c.stage.new.board) (g.B.Board.view c.mark.new.board) (c.mark.ensures.each run.end run.told))

pub returns-clause-wears : goal.returns-clause-wears
returns-clause-wears g c s told =
    let first = stage_works true s (g.B.Board.view c.args.board.now) (g.B.Board.view c.stage.new.board) told (c.stage.ensures.each s told) c.stage.ensures.once in
    works_mark (λ u. Rests u × Vouches stages.Image (parts first.end)) stages.Image 306 785 true true s (g.B.Board.view c.args.board.now) (g.B.Board.view c.stage.new.board) (g.B.Board.view c.mark.new.board) first (c.mark.ensures.each first.end first.told)
    (λ yes. (refl, λ x is. becomes_alike (λ u. Rests u × Vouches stages.Image (parts first.end)) (marks stages.Image) stages.Image first.end x (g.B.Board.view c.mark.new.board) (c.in_ok-mark.ensures.ok first.end first.told) is))

pub returns-clause-spares : goal.returns-clause-spares
returns-clause-spares g c s told t linking is_open =
    let set = c.args.set.now in
    let listing = has_listed t set s linking is_open in
    let pages = has_pages t set s c.requires.set linking listing in
    let sp = stage_spares (comes_of t set) pages.pages s (g.B.Board.view c.args.board.now) (g.B.Board.view c.stage.new.board) pages.image told (c.stage.ensures.wear s told pages.pages pages.are) in
    let run = c.stage.ensures.each s told in
    staged_between (comes_of t set) s (g.B.Board.view c.args.board.now) (g.B.Board.view c.args.board.now) (g.B.Board.view c.stage.new.board) (g.B.Board.view c.mark.new.board) (idle_starts (g.B.Board.view c.args.board.now)) sp (mark_idle (Step (λ u. Rests u × Vouches stages.Image (parts run.end)) (one_page (stage_gate stages.Image)) run.end) stages.Image (g.B.Board.view c.stage.new.board) (g.B.Board.view c.mark.new.board) (c.mark.ensures.each run.end run.told))
