use Rattle.std.proofs.Common.{ℕ, ◌++◌, length, take, drop, ap₂, ◌∙◌}
use Rattle.external_flash.specs.Areas.{bytes_from}
use Rattle.kept_store.proofs.RunLemmas.{table_there}
use Rattle.kept_store.proofs.runs.table_bytes.Goals as goal

pub returns-clause-answer : goal.returns-clause-answer
returns-clause-answer g c = λ s told comp own.
    let sizes = (g.B.Board.view c.args.board.now).sizes s told in
    let n : ℕ = length c.args.into.now in
    c.in_ok-run_pieces.ensures.bytes s told
    ∙ ap₂ (λ (records first : ℕ). take n (drop c.args.from (take 32 (bytes_from first s) ++ drop records (bytes_from first s)))) c.records_at-records.ensures.at c.slot_page-first.ensures.page
    ∙ table_there s sizes c.args.set.now c.args.k comp c.requires.set c.slot_page-first.ensures.rooms c.requires.component own c.args.from n c.requires.within
