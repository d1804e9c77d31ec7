use Rattle.std.proofs.Common.{ap, ◌∙◌, subst, arith, length-set}
use Rattle.std.specs.List.{concat}
use Rattle.flash_pages.proofs.Runs.{reads_reads}
use Rattle.kept_journal.specs.Standing.{StoresRelease}
use Rattle.kept_journal.proofs.Side.{read_more, read_all, side_is, stores_release}
use Rattle.kept_journal.proofs.standing.read_release.Goals as goal

pub loop-i-preserved : goal.loop-i-preserved
loop-i-preserved g c = record {
  size = length-set c.loop-i.pages c.loop-i.i c.ext_read.new.into ∙ c.loop-i.invariant.size;
  pages = λ s told.
      let sizes = (g.B.Board.view c.args.board.now).sizes s told in
      read_more c.first_page-first.result c.loop-i.i c.loop-i.pages s.ext c.ext_read.new.into c.loop-i.invariant.size c.loop-i-test.true (omega (arith, sizes.ext, c.first_page-first.ensures.within)) (c.loop-i.invariant.pages s told)
      (c.in_ok-ext_read.ensures.page s (c.loop-i.invariant.reads.state ∙ told));
  reads = reads_reads _ _ _ c.loop-i.invariant.reads c.ext_read.ensures.reads;
  fault = c.in_ok-ext_read.ensures.faults ∙ c.loop-i.invariant.fault;
}

pub returns-clause-answer : goal.returns-clause-answer
returns-clause-answer g c = λ s told.
    let sizes = (g.B.Board.view c.args.board.now).sizes s told in
    let pages = read_all c.first_page-first.result c.loop-i.i c.loop-i.pages s.ext c.loop-i.invariant.size (omega arith) (omega (arith, sizes.ext, c.first_page-first.ensures.within)) (c.loop-i.invariant.pages s told) in
    subst (λ b. StoresRelease b c.read_slot_pages.result) (ap concat pages ∙ side_is c.args.on_b c.first_page-first.result s c.first_page-first.ensures.page)
    (stores_release (concat c.loop-i.pages) c.read_slot_pages.result c.read_slot_pages.ensures.some c.read_slot_pages.ensures.none)

pub returns-in_err-ext_read-clause-reads : goal.returns-in_err-ext_read-clause-reads
returns-in_err-ext_read-clause-reads g c = reads_reads _ _ _ c.loop-i.invariant.reads c.ext_read.ensures.reads
