use Rattle.std.proofs.Common.{◌≡◌, ℕ, ◌+◌, length, take, drop, ap, ◌∙◌, rules}
use Rattle.std.specs.List.{concat}
use Rattle.flash_pages.proofs.Runs.{reads_reads}
use Rattle.kept_store.proofs.PartLemmas.{installed_there}
use Rattle.kept_store.proofs.parts.installed_bytes.Goals as goal

pub returns-in_err-clear_window-clause-reads : goal.returns-in_err-clear_window-clause-reads
returns-in_err-clear_window-clause-reads g c = reads_reads _ _ _ c.flash_bytes.ensures.reads c.clear_window.ensures.reads

pub returns-clause-answer : goal.returns-clause-answer
returns-clause-answer g c = λ s told comp own.
    let sizes = (g.B.Board.view c.args.board.now).sizes s told in
    let n : ℕ = length c.args.into.now in
    let wide : length c.flash_bytes.new.into ≡ n = search rules in
    installed_there s sizes c.args.set.now c.args.k comp own c.requires.installed c.args.in_init c.args.from n c.flash_bytes.new.into c.clear_window.new.into c.requires.within
    (c.in_ok-flash_bytes.ensures.ok s told ∙ ap (λ (at : ℕ). take n (drop (at + c.args.from) (concat s.prog))) c.flash_start-start.ensures.at) wide
    (c.in_ok-clear_window.ensures.answer s (c.flash_bytes.ensures.reads.state ∙ told) comp own)

pub returns-clause-reads : goal.returns-clause-reads
returns-clause-reads g c = reads_reads _ _ _ c.flash_bytes.ensures.reads c.clear_window.ensures.reads
