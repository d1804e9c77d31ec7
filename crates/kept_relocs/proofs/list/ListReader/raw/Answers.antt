use Rattle.std.proofs.Common.{◌∙◌, ap, ◌+◌, ◌*◌, ◌%◌, List, ℕ, slice_range}
use Rattle.kept_relocs.proofs.Entries.{raw_there}
use Rattle.kept_relocs.proofs.list.ListReader.raw.Goals as goal

pub returns-clause-raw : goal.returns-clause-raw
returns-clause-raw g c = λ s told keeps.
    let sizes = (g.B.Board.view c.args.board.now).sizes s told in
    c.eight.ensures.bytes
    ∙ ap (λ (b : List ℕ). slice_range b (8 * (c.args.i % 32)) (8 * (c.args.i % 32) + 8)) (c.in_ok-turn.ensures.page s told keeps)
    ∙ raw_there s c.args.i sizes c.requires
