use Rattle.std.proofs.Common.{[], get_or, ap, ◌∙◌, arith}
use Rattle.component_package.specs.packages.Reading.{header_of}
use Rattle.component_package.proofs.Laws.{steps_find_the_fault}
use Rattle.kept_definitions.specs.Kept.{inbox_of}
use Rattle.kept_store.proofs.SlotBytes.{inbox_read}
use Rattle.kept_store.proofs.tables.inbox_header.Goals as goal

pub returns-clause-answer : goal.returns-clause-answer
returns-clause-answer g c = λ s told.
    let sizes = (g.B.Board.view c.args.board.now).sizes s told in
    c.of_bytes.ensures ∙ ap header_of (c.in_ok-read_bytes.ensures.ok s told ∙ inbox_read s sizes c.args.slot 0 32 c.requires (omega arith))
    ∙ steps_find_the_fault.header (get_or (inbox_of s.ext) c.args.slot [])
