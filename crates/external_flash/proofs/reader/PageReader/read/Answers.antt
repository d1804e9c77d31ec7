use Rattle.std.proofs.Common.{rules, ◌∙◌}
use Rattle.flash_pages.proofs.Runs.{reads_reads}
use Rattle.external_flash.proofs.Areas.{one_part, two_parts}
use Rattle.external_flash.proofs.reader.PageReader.read.Goals as goal

pub returns-in_err-read_part-2-clause-reads : goal.returns-in_err-read_part-2-clause-reads
returns-in_err-read_part-2-clause-reads g c = reads_reads _ _ _ c.read_part.ensures.reads c.read_part-then-here-into.ensures.reads

pub returns-in_ok-read_part-2-clause-ok : goal.returns-in_ok-read_part-2-clause-ok
returns-in_ok-read_part-2-clause-ok g c = λ s told keeps.
    let sizes = (g.B.Board.view c.args.board.now).sizes s told in
    let within = c.requires.within (search rules) in
    let first = c.in_ok-read_part.ensures.ok s told keeps in
    let kept = c.read_part.ensures.keeps s told keeps in
    let second = c.in_ok-read_part-2.ensures.ok s (c.read_part.ensures.reads.state ∙ told) kept in
    two_parts s c.args.first c.args.from sizes c.min-here.result c.args.into.now c.read_part.new.into within (search rules) (search rules) first
    c.read_part-then-here-into.new.into c.if-here-into.true c.requires.short second

pub returns-in_ok-read_part-2-clause-reads : goal.returns-in_ok-read_part-2-clause-reads
returns-in_ok-read_part-2-clause-reads g c = reads_reads _ _ _ c.read_part.ensures.reads c.read_part-then-here-into.ensures.reads

pub returns-else-here-into-clause-ok : goal.returns-else-here-into-clause-ok
returns-else-here-into-clause-ok g c = λ s told keeps.
    let sizes = (g.B.Board.view c.args.board.now).sizes s told in
    let within = c.requires.within (search rules) in
    let first = c.in_ok-read_part.ensures.ok s told keeps in
    one_part s c.args.first c.args.from sizes c.min-here.result c.args.into.now c.read_part.new.into within (search rules) (search rules) first c.if-here-into.false
