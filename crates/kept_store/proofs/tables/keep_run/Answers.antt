use Rattle.std.proofs.Common.{◌≡◌, ℕ, ◌+◌, ◌<◌, Some, sym, ap, subst, ◌∙◌, arith}
use Rattle.flash_pages.proofs.Runs.{uses_uses}
use Rattle.kept_store.specs.Tables.{OnlyTable, run_page_count}
use Rattle.kept_store.proofs.TableLemmas.{wrote, wrote_none, wrote_run, fits_run, keeps}
use Rattle.kept_store.proofs.TableRuns.{fills_none, fills_next, only_wrote, page_written, leaves_all, dues, wears}
use Rattle.kept_store.proofs.tables.keep_run.Goals as goal

pub returns-in_err-h-clause-each : goal.returns-in_err-h-clause-each
returns-in_err-h-clause-each g c = λ s told. leaves_all c.args.slot 0 s _ _ (omega arith) (fills_none c.args.slot s _ _ c.requires told c.inbox_header.ensures.reads)

pub loop-page-init : goal.loop-page-init
loop-page-init g c = record {
  state = λ s told. c.inbox_header.ensures.reads.state ∙ told ∙ ap Some (sym (wrote_none c.args.slot s));
  fills = λ s told. fills_none c.args.slot s _ _ c.requires told c.inbox_header.ensures.reads;
  uses = c.inbox_header.ensures.reads.uses;
  fault = c.in_ok-h.ensures.faults;
}

pub returns-in_err-keep_page-clause-each : goal.returns-in_err-keep_page-clause-each
returns-in_err-keep_page-clause-each g c = λ s told.
    let count : c.loop-page.page < run_page_count c.in_ok-h.h = omega (arith, c.run_page_count-count.ensures.count, c.loop-page-test.true) in
    leaves_all c.args.slot (c.loop-page.page + 1) s _ _ (omega (arith, c.run_page_count-count.ensures.low, c.loop-page-test.true))
    (fills_next c.args.slot c.loop-page.page c.in_ok-h.h s _ _ _ c.requires (c.in_ok-h.ensures.answer s told) count told
    (c.loop-page.invariant.fills s told) (c.loop-page.invariant.state s told) c.keep_page.ensures.programs)

pub returns-in_err-keep_page-clause-wear : goal.returns-in_err-keep_page-clause-wear
returns-in_err-keep_page-clause-wear g c =
    let count : c.loop-page.page < run_page_count c.in_ok-h.h = omega (arith, c.run_page_count-count.ensures.count, c.loop-page-test.true) in
    wears c.args.slot (c.loop-page.page + 1) _ _ c.requires (λ s told.
    fills_next c.args.slot c.loop-page.page c.in_ok-h.h s _ _ _ c.requires (c.in_ok-h.ensures.answer s told) count told
    (c.loop-page.invariant.fills s told) (c.loop-page.invariant.state s told) c.keep_page.ensures.programs)

pub returns-in_err-keep_page-clause-due : goal.returns-in_err-keep_page-clause-due
returns-in_err-keep_page-clause-due g c =
    let count : c.loop-page.page < run_page_count c.in_ok-h.h = omega (arith, c.run_page_count-count.ensures.count, c.loop-page-test.true) in
    dues c.args.slot (c.loop-page.page + 1) _ _ (λ s told.
    fills_next c.args.slot c.loop-page.page c.in_ok-h.h s _ _ _ c.requires (c.in_ok-h.ensures.answer s told) count told
    (c.loop-page.invariant.fills s told) (c.loop-page.invariant.state s told) c.keep_page.ensures.programs)

pub loop-page-preserved : goal.loop-page-preserved
loop-page-preserved g c = record {
  state = λ s told.
      let sizes = (g.B.Board.view c.args.board.now).sizes s told in
      let count : c.loop-page.page < run_page_count c.in_ok-h.h = omega (arith, c.run_page_count-count.ensures.count, c.loop-page-test.true) in
      let now = c.loop-page.invariant.state s told in
      let only = only_wrote c.args.slot c.loop-page.page s _ _ (c.loop-page.invariant.fills s told) now in
      page_written c.args.slot c.loop-page.page c.in_ok-h.h s _ sizes c.requires (c.in_ok-h.ensures.answer s told) count only
      (c.in_ok-keep_page.ensures.ok (wrote c.loop-page.page c.args.slot s) now);
  fills = λ s told.
      let count : c.loop-page.page < run_page_count c.in_ok-h.h = omega (arith, c.run_page_count-count.ensures.count, c.loop-page-test.true) in
      fills_next c.args.slot c.loop-page.page c.in_ok-h.h s _ _ _ c.requires (c.in_ok-h.ensures.answer s told) count told
      (c.loop-page.invariant.fills s told) (c.loop-page.invariant.state s told) c.keep_page.ensures.programs;
  uses = uses_uses _ _ _ c.loop-page.invariant.uses c.keep_page.ensures.programs.uses;
  fault = c.in_ok-keep_page.ensures.faults ∙ c.loop-page.invariant.fault;
}

pub returns-clause-ok : goal.returns-clause-ok
returns-clause-ok g c = λ s told.
    let sizes = (g.B.Board.view c.args.board.now).sizes s told in
    let all : c.loop-page.page ≡ run_page_count c.in_ok-h.h = omega (arith, c.run_page_count-count.ensures.count) in
    c.loop-page.invariant.state s told ∙ ap Some (wrote_run c.loop-page.page c.args.slot c.in_ok-h.h s sizes c.requires (c.in_ok-h.ensures.answer s told) all)

pub returns-clause-kept : goal.returns-clause-kept
returns-clause-kept g c = λ s told fits.
    let sizes = (g.B.Board.view c.args.board.now).sizes s told in
    let slot : ℕ = c.args.slot in
    let all : c.loop-page.page ≡ run_page_count c.in_ok-h.h = omega (arith, c.run_page_count-count.ensures.count) in
    let now = c.loop-page.invariant.state s told in
    let same = wrote_run c.loop-page.page slot c.in_ok-h.h s sizes c.requires (c.in_ok-h.ensures.answer s told) all ∙ fits_run slot s fits in
    let only = only_wrote slot c.loop-page.page s _ _ (c.loop-page.invariant.fills s told) now in
    keeps slot s sizes c.requires fits _ (subst (OnlyTable slot s) same only) (now ∙ ap Some same)

pub returns-clause-each : goal.returns-clause-each
returns-clause-each g c = λ s told. leaves_all c.args.slot c.loop-page.page s _ _ (omega (arith, c.run_page_count-count.ensures.low)) (c.loop-page.invariant.fills s told)

pub returns-clause-wear : goal.returns-clause-wear
returns-clause-wear g c = wears c.args.slot c.loop-page.page _ _ c.requires c.loop-page.invariant.fills

pub returns-clause-due : goal.returns-clause-due
returns-clause-due g c = dues c.args.slot c.loop-page.page _ _ c.loop-page.invariant.fills
