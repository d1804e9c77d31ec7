use Rattle.std.proofs.Common.{◌≡◌, ℕ, ◌+◌, ◌*◌, ◌/◌, ◌-◌, ◌++◌, length, take, drop, rules, ap, ◌∙◌, arith}
use Rattle.flash_pages.specs.State.{Ext, page_at}
use Rattle.flash_pages.proofs.Runs.{reads_reads}
use Rattle.external_flash.proofs.Areas.{one_part, two_parts, bytes_from-area}
use Rattle.component_store.proofs.reader.SlotReader.read.Goals as goal

pub returns-in_err-read_part-2-clause-reads : goal.returns-in_err-read_part-2-clause-reads
returns-in_err-read_part-2-clause-reads g c = reads_reads _ _ _ c.read_part.ensures.reads c.read_part-then-here-into.ensures.reads

pub returns-in_ok-read_part-2-clause-answer : goal.returns-in_ok-read_part-2-clause-answer
returns-in_ok-read_part-2-clause-answer g c = λ s told keeps.
    let sizes = (g.B.Board.view c.args.board.now).sizes s told in
    let first : ℕ = 786 + 39 * c.args.self.now.slot in
    let slot = c.requires.slot in
    let within = c.requires.within in
    let there = c.in_ok-read_part.ensures.answer s told keeps in
    let kept = c.in_ok-read_part.ensures.keeps s told keeps in
    let next : 786 + 39 * c.read_part.new.self.slot + (c.args.from / 256 + 1) ≡ first + c.args.from / 256 + 1 = ap (λ (k : ℕ). 786 + 39 * k + (c.args.from / 256 + 1)) c.read_part.ensures.slot ∙ omega arith in
    let second = c.in_ok-read_part-2.ensures.answer s (c.read_part.ensures.reads.state ∙ told) kept
    ∙ ap (λ (k : ℕ). take (length (take (length (c.read_part.new.into ++ drop c.min-here.result c.args.into.now) - c.min-here.result) (drop c.min-here.result (c.read_part.new.into ++ drop c.min-here.result c.args.into.now)))) (page_at s (Ext k))) next in
    two_parts s first c.args.from sizes c.min-here.result c.args.into.now c.read_part.new.into (omega arith) (search rules) (search rules) there
    c.read_part-then-here-into.new.into c.if-here-into.true c.requires.short second
    ∙ bytes_from-area first 39 c.args.from (length c.args.into.now) s sizes (omega arith) (omega arith)

pub returns-in_ok-read_part-2-clause-reads : goal.returns-in_ok-read_part-2-clause-reads
returns-in_ok-read_part-2-clause-reads g c = reads_reads _ _ _ c.read_part.ensures.reads c.read_part-then-here-into.ensures.reads

pub returns-else-here-into-clause-answer : goal.returns-else-here-into-clause-answer
returns-else-here-into-clause-answer g c = λ s told keeps.
    let sizes = (g.B.Board.view c.args.board.now).sizes s told in
    let first : ℕ = 786 + 39 * c.args.self.now.slot in
    let slot = c.requires.slot in
    let within = c.requires.within in
    let there = c.in_ok-read_part.ensures.answer s told keeps in
    one_part s first c.args.from sizes c.min-here.result c.args.into.now c.read_part.new.into (omega arith) (search rules) (search rules) there c.if-here-into.false
    ∙ bytes_from-area first 39 c.args.from (length c.args.into.now) s sizes (omega arith) (omega arith)
