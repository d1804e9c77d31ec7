use Rattle.std.proofs.Common.{ℕ, ◌+◌, ◌-◌, length, take, drop, ap₂, ◌∙◌}
use Rattle.external_flash.specs.Areas.{bytes_from}
use Rattle.kept_store.proofs.RecordLemmas.{run_there}
use Rattle.kept_store.proofs.records.run_bytes.Goals as goal

pub returns-clause-answer : goal.returns-clause-answer
returns-clause-answer g c = λ s told keeps comp own.
    let sizes = (g.B.Board.view c.args.board.now).sizes s told in
    let n : ℕ = length c.args.into.now in
    c.in_ok-read.ensures.ok s told keeps
    ∙ ap₂ (λ (from first : ℕ). take n (drop (from + (c.args.at - 32)) (bytes_from first s))) c.records_at.ensures.at c.slot_page-first.ensures.page
    ∙ run_there s sizes c.args.set.now c.args.k comp c.requires.set c.slot_page-first.ensures.rooms c.requires.component own c.args.at n c.requires.behind c.requires.within
