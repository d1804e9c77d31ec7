use Rattle.std.proofs.Common.{◌≡◌, ℕ, ◌+◌, ◌≤◌, cond, length, take, drop, ap₂, subst, ◌∙◌, arith}
use Rattle.external_flash.specs.Areas.{bytes_from}
use Rattle.component_store.specs.Sets.{length_of_part}
use Rattle.kept_store.specs.Sets.{header_at}
use Rattle.kept_store.proofs.PartLemmas.{fresh_there}
use Rattle.kept_store.proofs.parts.fresh_bytes.Goals as goal

pub returns-clause-answer : goal.returns-clause-answer
returns-clause-answer g c = λ s told comp own.
    let sizes = (g.B.Board.view c.args.board.now).sizes s told in
    let n : ℕ = length c.args.into.now in
    let from : ℕ = c.args.from in
    let start : c.package_start-start.result ≡ 32 + cond c.args.in_init (header_at c.args.set.now c.args.k).code 0 = c.package_start-start.ensures.at in
    let asked : from + n ≤ length_of_part (header_at c.args.set.now c.args.k) c.args.in_init = c.requires.within in
    let room : c.package_start-start.result + from + n ≤ 9984 = omega (arith, c.package_start-start.ensures.room) in
    c.in_ok-slot_bytes.ensures.ok s told
    ∙ ap₂ (λ (at first : ℕ). take n (drop (at + from) (bytes_from first s))) start c.slot_page-first.ensures.page
    ∙ fresh_there s sizes c.args.set.now c.args.k comp c.requires.set c.requires.component own c.requires.fresh c.args.in_init from n asked
    (subst (λ (at : ℕ). at + from + n ≤ 9984) start room)
