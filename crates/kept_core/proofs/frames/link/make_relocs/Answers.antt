use Rattle.std.proofs.Common.{true, false, is_some, refl, sym, ap, ◌∙◌, subst, arith}
use Rattle.std.proofs.lemmas.Option.{same_Some}
use Rattle.flash_pages.specs.State.{State}
use Rattle.component_package.specs.link.Areas.{Lists}
use Rattle.component_package.specs.link.Pages.{listed}
use Rattle.kept_journal.specs.declared.gates.Stage.TheVariants as stages
use Rattle.kept_relocs.specs.List.{list_area}
use Rattle.kept_core.specs.Serving.{link_pages}
use Rattle.kept_core.proofs.Links.{run_idle, run_then, read_then, read_only, weaker_run, done_linking, site_found, has_merged, relocs_run, relocs_linking, listed_vouched, listed_goes, marks_run, site_refuses, site_calm}
use Rattle.std.proofs.lemmas.Bool.{false≢true}
use Rattle.kept_core.specs.Links.{comes_of}
use Rattle.kept_core.proofs.Wears.{not_ok, idle_starts, idle_reads, works_idle, works_reads, works_mark, becomes_alike, build_works, build_spares, mark_idle, list_idle, list_between}
use Rattle.kept_journal.specs.Steps.{parts, Step, Rests, Vouches, marks, one_page, stage_gate}
use Rattle.kept_core.proofs.frames.link.make_relocs.Goals as goal

pub returns-then-is_made-clause-goes : goal.returns-then-is_made-clause-goes
returns-then-is_made-clause-goes g c s told t linking is_open made =
    done_linking t c.args.set.now true true s (g.B.Board.view c.args.board.now) told linking is_open (sym made ∙ c.if-is_made.true)

pub returns-then-is_made-clause-leaves : goal.returns-then-is_made-clause-leaves
returns-then-is_made-clause-leaves g c s told t linking p =
    run_idle s t 257 (g.B.Board.view c.args.board.now) told linking.stands

pub returns-then-is_none-clause-leaves : goal.returns-then-is_none-clause-leaves
returns-then-is_none-clause-leaves g c s told t linking p =
    read_only s t 257 (g.B.Board.view c.args.board.now) (g.B.Board.view c.check_relocs.new.board) told linking.stands c.check_relocs.ensures.reads

pub returns-in-Err-clause-leaves : goal.returns-in-Err-clause-leaves
returns-in-Err-clause-leaves g c s told t linking p =
    read_only s t 257 (g.B.Board.view c.args.board.now) (g.B.Board.view c.check_relocs.new.board) told linking.stands c.check_relocs.ensures.reads

pub returns-in-Err-clause-goes : goal.returns-in-Err-clause-goes
returns-in-Err-clause-goes g c s told t linking is_open made =
    let set = c.args.set.now in
    let merged = has_merged t set s linking is_open in
    site_found t set true true c.site_answer-answer.result s (g.B.Board.view c.check_relocs.new.board) (c.check_relocs.ensures.reads.state ∙ told) linking
    (λ none. false≢true (sym (ap is_some none) ∙ c.if-is_none.ensures))
    (λ b some. let found = sym c.site_answer-answer.ensures.answer ∙ some in
    site_refuses (Unit {0}) (comes_of t set) s c.in-Err.fault b merged (c.in-Err.ensures.own (site_calm (Unit {0}) c.in-Err.fault b found) s told (comes_of t set) linking.held merged.table merged.is merged.tells) found)

pub returns-in_err-build-clause-leaves : goal.returns-in_err-build-clause-leaves
returns-in_err-build-clause-leaves g c s told t linking p =
    let told_read = c.check_relocs.ensures.reads.state ∙ told in
    read_then s t 257 (g.B.Board.view c.args.board.now) (g.B.Board.view c.check_relocs.new.board) (g.B.Board.view c.build.new.board) told linking.stands c.check_relocs.ensures.reads (weaker_run s 256 257 (g.B.Board.view c.check_relocs.new.board) (g.B.Board.view c.build.new.board) (omega arith) (relocs_run t c.args.set.now s (g.B.Board.view c.check_relocs.new.board) (g.B.Board.view c.build.new.board) linking (sym p.1 ∙ c.if-is_made.false) (c.build.ensures.each s told_read)))

pub returns-in_err-mark-clause-leaves : goal.returns-in_err-mark-clause-leaves
returns-in_err-mark-clause-leaves g c s told t linking p =
    let is_open = p.0 in
    let closed = sym p.1 ∙ c.if-is_made.false in
    let set = c.args.set.now in
    let merged = has_merged t set s linking is_open in
    let told_read = c.check_relocs.ensures.reads.state ∙ told in
    let none = c.in-Ok.ensures.own refl s told (comes_of t set) linking.held merged.table merged.is merged.tells in
    let run = c.build.ensures.each s told_read in
    let has = c.in_ok-build.ensures.ok s told_read (comes_of t set) linking.held merged.table merged.tells in
    let lists = subst (λ (y : State). Lists (list_area y) (listed (comes_of t set) merged.table)) (same_Some has.state run.end (sym has.told ∙ run.told)) has.lists in
    let vouched = listed_vouched t set s run.end linking is_open closed run.ends merged none lists in
    read_then s t 257 (g.B.Board.view c.args.board.now) (g.B.Board.view c.check_relocs.new.board) (g.B.Board.view c.mark.new.board) told linking.stands c.check_relocs.ensures.reads
    (run_then link_pages s run.end 256 1 (g.B.Board.view c.check_relocs.new.board) (g.B.Board.view c.build.new.board) (g.B.Board.view c.mark.new.board) run.told (relocs_run t set s (g.B.Board.view c.check_relocs.new.board) (g.B.Board.view c.build.new.board) linking closed run)
    (marks_run t set stages.Relocs run.end (g.B.Board.view c.build.new.board) (g.B.Board.view c.mark.new.board) (relocs_linking t set s run.end linking closed run.ends) vouched (c.mark.ensures.each run.end run.told)))

pub returns-clause-leaves : goal.returns-clause-leaves
returns-clause-leaves g c s told t linking p =
    let is_open = p.0 in
    let closed = sym p.1 ∙ c.if-is_made.false in
    let set = c.args.set.now in
    let merged = has_merged t set s linking is_open in
    let told_read = c.check_relocs.ensures.reads.state ∙ told in
    let none = c.in-Ok.ensures.own refl s told (comes_of t set) linking.held merged.table merged.is merged.tells in
    let run = c.build.ensures.each s told_read in
    let has = c.in_ok-build.ensures.ok s told_read (comes_of t set) linking.held merged.table merged.tells in
    let lists = subst (λ (y : State). Lists (list_area y) (listed (comes_of t set) merged.table)) (same_Some has.state run.end (sym has.told ∙ run.told)) has.lists in
    let vouched = listed_vouched t set s run.end linking is_open closed run.ends merged none lists in
    read_then s t 257 (g.B.Board.view c.args.board.now) (g.B.Board.view c.check_relocs.new.board) (g.B.Board.view c.mark.new.board) told linking.stands c.check_relocs.ensures.reads
    (run_then link_pages s run.end 256 1 (g.B.Board.view c.check_relocs.new.board) (g.B.Board.view c.build.new.board) (g.B.Board.view c.mark.new.board) run.told (relocs_run t set s (g.B.Board.view c.check_relocs.new.board) (g.B.Board.view c.build.new.board) linking closed run)
    (marks_run t set stages.Relocs run.end (g.B.Board.view c.build.new.board) (g.B.Board.view c.mark.new.board) (relocs_linking t set s run.end linking closed run.ends) vouched (c.mark.ensures.each run.end run.told)))

pub returns-clause-goes : goal.returns-clause-goes
returns-clause-goes g c s told t linking is_open made =
    let closed = sym made ∙ c.if-is_made.false in
    let set = c.args.set.now in
    let merged = has_merged t set s linking is_open in
    let told_read = c.check_relocs.ensures.reads.state ∙ told in
    let none = c.in-Ok.ensures.own refl s told (comes_of t set) linking.held merged.table merged.is merged.tells in
    let run = c.build.ensures.each s told_read in
    let has = c.in_ok-build.ensures.ok s told_read (comes_of t set) linking.held merged.table merged.tells in
    let lists = subst (λ (y : State). Lists (list_area y) (listed (comes_of t set) merged.table)) (same_Some has.state run.end (sym has.told ∙ run.told)) has.lists in
    let vouched = listed_vouched t set s run.end linking is_open closed run.ends merged none lists in
    listed_goes t set s run.end linking is_open closed run.ends (g.B.Board.view c.mark.new.board) vouched (c.in_ok-mark.ensures.ok run.end run.told)

pub returns-then-is_made-clause-wears : goal.returns-then-is_made-clause-wears
returns-then-is_made-clause-wears g c s told = works_idle 50 305 true s (g.B.Board.view c.args.board.now) (g.B.Board.view c.args.board.now) told (idle_starts (g.B.Board.view c.args.board.now))

pub returns-then-is_made-clause-spares : goal.returns-then-is_made-clause-spares
returns-then-is_made-clause-spares g c s told t linking is_open = list_idle (comes_of t c.args.set.now) s (g.B.Board.view c.args.board.now) (g.B.Board.view c.args.board.now) (idle_starts (g.B.Board.view c.args.board.now))

pub returns-then-is_none-clause-wears : goal.returns-then-is_none-clause-wears
returns-then-is_none-clause-wears g c s told = works_idle 50 305 false s (g.B.Board.view c.args.board.now) (g.B.Board.view c.check_relocs.new.board) (c.check_relocs.ensures.reads.state ∙ told) (idle_reads (g.B.Board.view c.args.board.now) (g.B.Board.view c.check_relocs.new.board) c.check_relocs.ensures.reads)

pub returns-then-is_none-clause-spares : goal.returns-then-is_none-clause-spares
returns-then-is_none-clause-spares g c s told t linking is_open = list_idle (comes_of t c.args.set.now) s (g.B.Board.view c.args.board.now) (g.B.Board.view c.check_relocs.new.board) (idle_reads (g.B.Board.view c.args.board.now) (g.B.Board.view c.check_relocs.new.board) c.check_relocs.ensures.reads)

pub returns-in-Err-clause-wears : goal.returns-in-Err-clause-wears
returns-in-Err-clause-wears g c s told = works_idle 50 305 true s (g.B.Board.view c.args.board.now) (g.B.Board.view c.check_relocs.new.board) (c.check_relocs.ensures.reads.state ∙ told) (idle_reads (g.B.Board.view c.args.board.now) (g.B.Board.view c.check_relocs.new.board) c.check_relocs.ensures.reads)

pub returns-in-Err-clause-spares : goal.returns-in-Err-clause-spares
returns-in-Err-clause-spares g c s told t linking is_open = list_idle (comes_of t c.args.set.now) s (g.B.Board.view c.args.board.now) (g.B.Board.view c.check_relocs.new.board) (idle_reads (g.B.Board.view c.args.board.now) (g.B.Board.view c.check_relocs.new.board) c.check_relocs.ensures.reads)

pub returns-in_err-build-clause-wears : goal.returns-in_err-build-clause-wears
returns-in_err-build-clause-wears g c s told =
    let told_read = c.check_relocs.ensures.reads.state ∙ told in
    works_reads 50 305 _ s (g.B.Board.view c.args.board.now) (g.B.Board.view c.check_relocs.new.board) (g.B.Board.view c.build.new.board) c.check_relocs.ensures.reads (build_works _ s (g.B.Board.view c.check_relocs.new.board) (g.B.Board.view c.build.new.board) told_read (c.build.ensures.each s told_read) c.build.ensures.once)

pub returns-in_err-build-clause-spares : goal.returns-in_err-build-clause-spares
returns-in_err-build-clause-spares g c s told t linking is_open =
    let set = c.args.set.now in
    let merged = has_merged t set s linking is_open in
    let told_read = c.check_relocs.ensures.reads.state ∙ told in
    list_between (comes_of t set) s (g.B.Board.view c.args.board.now) (g.B.Board.view c.check_relocs.new.board) (g.B.Board.view c.build.new.board) (g.B.Board.view c.build.new.board) (idle_reads (g.B.Board.view c.args.board.now) (g.B.Board.view c.check_relocs.new.board) c.check_relocs.ensures.reads)
    (build_spares (comes_of t set) merged.table s (g.B.Board.view c.check_relocs.new.board) (g.B.Board.view c.build.new.board) merged.is told_read (c.build.ensures.wear s told_read (comes_of t set) linking.held merged.table merged.tells)) (idle_starts (g.B.Board.view c.build.new.board))

pub returns-in_err-mark-clause-wears : goal.returns-in_err-mark-clause-wears
returns-in_err-mark-clause-wears g c s told =
    let told_read = c.check_relocs.ensures.reads.state ∙ told in
    let first = build_works true s (g.B.Board.view c.check_relocs.new.board) (g.B.Board.view c.build.new.board) told_read (c.build.ensures.each s told_read) c.build.ensures.once in
    works_reads 50 305 _ s (g.B.Board.view c.args.board.now) (g.B.Board.view c.check_relocs.new.board) (g.B.Board.view c.mark.new.board) c.check_relocs.ensures.reads
    (works_mark (λ u. Rests u × Vouches stages.Relocs (parts first.end)) stages.Relocs 50 305 true _ s (g.B.Board.view c.check_relocs.new.board) (g.B.Board.view c.build.new.board) (g.B.Board.view c.mark.new.board) first (c.mark.ensures.each first.end first.told)
    (λ yes. absurd (not_ok _ c.from_residual-in_err-mark.result c.from_residual-in_err-mark.ensures.1 yes)))

pub returns-in_err-mark-clause-spares : goal.returns-in_err-mark-clause-spares
returns-in_err-mark-clause-spares g c s told t linking is_open =
    let set = c.args.set.now in
    let merged = has_merged t set s linking is_open in
    let told_read = c.check_relocs.ensures.reads.state ∙ told in
    let run = c.build.ensures.each s told_read in
    list_between (comes_of t set) s (g.B.Board.view c.args.board.now) (g.B.Board.view c.check_relocs.new.board) (g.B.Board.view c.build.new.board) (g.B.Board.view c.mark.new.board) (idle_reads (g.B.Board.view c.args.board.now) (g.B.Board.view c.check_relocs.new.board) c.check_relocs.ensures.reads)
    (build_spares (comes_of t set) merged.table s (g.B.Board.view c.check_relocs.new.board) (g.B.Board.view c.build.new.board) merged.is told_read (c.build.ensures.wear s told_read (comes_of t set) linking.held merged.table merged.tells))
    (mark_idle (Step (λ u. Rests u × Vouches stages.Relocs (parts run.end)) (one_page (stage_gate stages.Relocs)) run.end) stages.Relocs (g.B.Board.view c.build.new.board) (g.B.Board.view c.mark.new.board) (c.mark.ensures.each run.end run.told))

pub returns-clause-wears : goal.returns-clause-wears
returns-clause-wears g c s told =
    let told_read = c.check_relocs.ensures.reads.state ∙ told in
    let first = build_works true s (g.B.Board.view c.check_relocs.new.board) (g.B.Board.view c.build.new.board) told_read (c.build.ensures.each s told_read) c.build.ensures.once in
    works_reads 50 305 true s (g.B.Board.view c.args.board.now) (g.B.Board.view c.check_relocs.new.board) (g.B.Board.view c.mark.new.board) c.check_relocs.ensures.reads
    (works_mark (λ u. Rests u × Vouches stages.Relocs (parts first.end)) stages.Relocs 50 305 true true s (g.B.Board.view c.check_relocs.new.board) (g.B.Board.view c.build.new.board) (g.B.Board.view c.mark.new.board) first (c.mark.ensures.each first.end first.told)
    (λ yes. (refl, λ x is. becomes_alike (λ u. Rests u × Vouches stages.Relocs (parts first.end)) (marks stages.Relocs) stages.Relocs first.end x (g.B.Board.view c.mark.new.board) (c.in_ok-mark.ensures.ok first.end first.told) is)))

pub returns-clause-spares : goal.returns-clause-spares
returns-clause-spares g c s told t linking is_open =
    let set = c.args.set.now in
    let merged = has_merged t set s linking is_open in
    let told_read = c.check_relocs.ensures.reads.state ∙ told in
    let run = c.build.ensures.each s told_read in
    list_between (comes_of t set) s (g.B.Board.view c.args.board.now) (g.B.Board.view c.check_relocs.new.board) (g.B.Board.view c.build.new.board) (g.B.Board.view c.mark.new.board) (idle_reads (g.B.Board.view c.args.board.now) (g.B.Board.view c.check_relocs.new.board) c.check_relocs.ensures.reads)
    (build_spares (comes_of t set) merged.table s (g.B.Board.view c.check_relocs.new.board) (g.B.Board.view c.build.new.board) merged.is told_read (c.build.ensures.wear s told_read (comes_of t set) linking.held merged.table merged.tells))
    (mark_idle (Step (λ u. Rests u × Vouches stages.Relocs (parts run.end)) (one_page (stage_gate stages.Relocs)) run.end) stages.Relocs (g.B.Board.view c.build.new.board) (g.B.Board.view c.mark.new.board) (c.mark.ensures.each run.end run.told))
