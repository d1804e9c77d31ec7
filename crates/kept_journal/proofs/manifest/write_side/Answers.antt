use Rattle.std.proofs.Common.{◌+◌, refl, ap, ◌∙◌, arith}
use Rattle.external_flash.specs.Areas.{Differs}
use Rattle.flash_pages.specs.State.{Ext}
use Rattle.flash_pages.proofs.Runs.{uses_uses}
use Rattle.kept_manifests.specs.Slots.{stored_of}
use Rattle.kept_definitions.specs.Stored.{stored_bytes}
use Rattle.kept_journal.specs.Steps.{parts, Step, CanWrite, side_pages}
use Rattle.kept_journal.proofs.Takes.{takes_none, takes_more}
use Rattle.kept_journal.proofs.Writing.{written_starts, wrote_page, written_more, side_written}
use Rattle.kept_journal.proofs.manifest.write_side.Goals as goal

pub loop-i-init : goal.loop-i-init
loop-i-init g c = record {
  each = λ s told. takes_none (CanWrite c.args.on_b (parts s)) (side_pages c.args.on_b) (g.B.Board.view c.args.board.now) s told;
  written = λ s told. written_starts c.args.on_b (stored_bytes (stored_of c.args.m.now)) s (g.B.Board.view c.args.board.now) told;
  uses = record { untold = λ none. none; left = refl; line = refl; flash = omega arith };
  fault = refl;
}

pub returns-in_err-program_if_different-clause-each : goal.returns-in_err-program_if_different-clause-each
returns-in_err-program_if_different-clause-each g c = λ s told.
    let page_is = ap (λ n. n + c.loop-i.i) c.first_page-first.ensures.page in
    takes_more (Step (CanWrite c.args.on_b (parts s)) (side_pages c.args.on_b) s) (side_pages c.args.on_b) (c.loop-i.i + 1) 5 _ _ (omega (arith, c.loop-i-test.true))
    (wrote_page c.args.on_b c.loop-i.i (c.first_page-first.result + c.loop-i.i) (Differs (Ext (c.first_page-first.result + c.loop-i.i)) c.slot_page.result) (stored_bytes (stored_of c.args.m.now)) c.slot_page.result _ _ _ s
    (c.loop-i.invariant.written s told) page_is c.loop-i-test.true (c.loop-i.invariant.each s told) c.program_if_different.ensures.programs)

pub loop-i-preserved : goal.loop-i-preserved
loop-i-preserved g c =
    let page_is = ap (λ n. n + c.loop-i.i) c.first_page-first.ensures.page in
    record {
      each = λ s told. wrote_page c.args.on_b c.loop-i.i (c.first_page-first.result + c.loop-i.i) (Differs (Ext (c.first_page-first.result + c.loop-i.i)) c.slot_page.result) (stored_bytes (stored_of c.args.m.now)) c.slot_page.result _ _ _ s
          (c.loop-i.invariant.written s told) page_is c.loop-i-test.true (c.loop-i.invariant.each s told) c.program_if_different.ensures.programs;
      written = λ s told.
          let before = c.loop-i.invariant.written s told in
          written_more c.args.on_b c.loop-i.i (c.first_page-first.result + c.loop-i.i) (Differs (Ext (c.first_page-first.result + c.loop-i.i)) c.slot_page.result) (stored_bytes (stored_of c.args.m.now)) c.slot_page.result
          (g.B.Board.view c.args.board.now) _ _ s before page_is c.loop-i-test.true (c.in_ok-program_if_different.ensures.ok before.end before.told) c.slot_page.ensures;
      uses = uses_uses _ _ _ c.loop-i.invariant.uses c.program_if_different.ensures.programs.uses;
      fault = c.in_ok-program_if_different.ensures.faults ∙ c.loop-i.invariant.fault;
    }

pub returns-clause-ok : goal.returns-clause-ok
returns-clause-ok g c = λ s told.
    side_written c.args.on_b c.loop-i.i (stored_of c.args.m.now) _ _ s c.requires.stored (omega arith) (c.loop-i.invariant.each s told) (c.loop-i.invariant.written s told)
