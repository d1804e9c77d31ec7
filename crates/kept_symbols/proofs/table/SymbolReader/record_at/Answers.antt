use Rattle.std.proofs.Common.{ℕ, ◌+◌, ◌*◌, ◌%◌, List, take, drop, slice_range, ap, ◌∙◌, arith}
use Rattle.kept_symbols.proofs.Found.{record_is}
use Rattle.kept_symbols.proofs.Readers.{raw_there}
use Rattle.kept_symbols.proofs.table.SymbolReader.record_at.Goals as goal

pub returns-clause-bytes : goal.returns-clause-bytes
returns-clause-bytes g c = λ s told keeps rs tells.
    let i : ℕ = c.args.i in
    let low = c.requires in
    let few = tells.few in
    c.eight.ensures
    ∙ ap (λ (b : List ℕ). slice_range b (8 * (i % 32)) (8 * (i % 32) + 8)) (c.in_ok-turn.ensures.page s told keeps)
    ∙ raw_there s i ((g.B.Board.view c.args.board.now).sizes s told) low
    ∙ ap (λ (b : List ℕ). take 8 (drop (8 * i) b)) tells.spelled
    ∙ record_is 8192 i rs (omega (arith, few)) (omega (arith, low))
