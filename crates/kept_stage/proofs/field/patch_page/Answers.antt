use Rattle.std.proofs.Common.{◌≡◌, ◌+◌, Some, None, rules, refl, sym, ◌∙◌, arith}
use Rattle.std.specs.Prelude.{slice_get}
use Rattle.flash_pages.proofs.Runs.{reads_reads}
use Rattle.component_package.specs.link.Pages.{padded}
use Rattle.component_store.proofs.Calls.{reads_none}
use Rattle.kept_relocs.specs.List.{before}
use Rattle.kept_stage.proofs.Window.{among, before_some, next_done, page_done, before_past, done_start, passed_later}
use Rattle.kept_stage.proofs.field.patch_page.Goals as goal

pub loop-i-init : goal.loop-i-init
loop-i-init g c = record {
  long = search rules;
  next = c.requires.first;
  reads = reads_none (g.B.Board.view c.args.board.now);
  fault = refl;
  keeps = λ s told keeps. keeps;
  passed = λ s told keeps xs l passed. passed_later xs c.args.base (c.args.base + 256) c.args.first (omega arith) passed;
  done = λ s told keeps xs plain whole l passed fits p q put shows. done_start xs (padded plain) whole c.args.into.now c.args.base c.args.first passed shows;
}

pub returns-in_default-clause-reads : goal.returns-in_default-clause-reads
returns-in_default-clause-reads g c = reads_reads _ _ _ c.loop-i.invariant.reads c.entry_before.ensures.reads

pub returns-in-None-clause-reads : goal.returns-in-None-clause-reads
returns-in-None-clause-reads g c = reads_reads _ _ _ c.loop-i.invariant.reads c.entry_before.ensures.reads

pub returns-in-None-clause-page : goal.returns-in-None-clause-page
returns-in-None-clause-page g c = λ s told keeps xs plain whole l passed fits p q put shows.
    let none : before (c.args.base + 256) (slice_get xs c.loop-i.i) ≡ None =
    sym (c.in-Ok.ensures.entry s (c.loop-i.invariant.reads.state ∙ told) (c.loop-i.invariant.keeps s told keeps) xs l) ∙ c.in-None.is in
    page_done xs (padded plain) whole c.loop-i.into c.args.base c.loop-i.i l.rise none put (c.loop-i.invariant.done s told keeps xs plain whole l passed fits p q put shows)

pub returns-clause-page : goal.returns-clause-page
returns-clause-page g c = λ s told keeps xs plain whole l passed fits p q put shows.
    page_done xs (padded plain) whole c.loop-i.into c.args.base c.loop-i.i l.rise (before_past xs (c.args.base + 256) c.loop-i.i (omega (arith, l.few, c.loop-i-test.false))) put
    (c.loop-i.invariant.done s told keeps xs plain whole l passed fits p q put shows)

pub loop-i-preserved : goal.loop-i-preserved
loop-i-preserved g c = record {
  long = search rules;
  next = c.passed_to-next.ensures.low c.loop-i.invariant.next;
  reads = reads_reads _ _ _ c.loop-i.invariant.reads c.entry_before.ensures.reads;
  fault = c.in-Ok.ensures.faults ∙ c.loop-i.invariant.fault;
  keeps = λ s told keeps. c.in-Ok.ensures.keeps s (c.loop-i.invariant.reads.state ∙ told) (c.loop-i.invariant.keeps s told keeps);
  passed = λ s told keeps xs l was.
      let is : Some c.in-Some.x ≡ before (c.args.base + 256) (slice_get xs c.loop-i.i) =
      sym c.in-Some.is ∙ c.in-Ok.ensures.entry s (c.loop-i.invariant.reads.state ∙ told) (c.loop-i.invariant.keeps s told keeps) xs l in
      c.passed_to-next.ensures.passed xs l.rise (before_some (slice_get xs c.loop-i.i) (c.args.base + 256) c.in-Some.x is) (c.loop-i.invariant.passed s told keeps xs l was);
  done = λ s told keeps xs plain whole l passed fits p q put shows.
      let is : Some c.in-Some.x ≡ before (c.args.base + 256) (slice_get xs c.loop-i.i) =
      sym c.in-Some.is ∙ c.in-Ok.ensures.entry s (c.loop-i.invariant.reads.state ∙ told) (c.loop-i.invariant.keeps s told keeps) xs l in
      let a = among _ xs plain (c.args.base + 256) c.loop-i.i c.in-Some.x l fits is in
      next_done _ xs plain whole c.loop-i.into c.put_part.new.page c.args.base (c.args.base + 256) c.loop-i.i c.in-Some.x l fits is p q put (c.put_part.ensures a.possible)
      (c.loop-i.invariant.done s told keeps xs plain whole l passed fits p q put shows);
}
