use Rattle.std.proofs.Common.{ℕ, ◌<◌, true, false, get_or, sym, ◌∙◌, arith}
use Rattle.std.proofs.lemmas.List.{length-set}
use Rattle.release_versions.proofs.Different.{marked, mark_more, seen_twice, seen_once}
use Rattle.release_versions.proofs.numbers.are_distinct.Goals as goal

pub returns-then-index : goal.returns-then-index
returns-then-index c =
    let xs = c.args.numbers.now in
    let i : ℕ = c.loop-number.number-index in
    let seen = c.loop-number.seen.items in
    let before = c.loop-number.invariant in
    let below : get_or xs i 0 < c.args.bound = c.requires i 0 c.loop-number-test.true in
    let mark = marked seen (get_or xs i 0) c.index.result.now true (omega (arith, below, before.0)) c.index.ensures c.if-index.true in
    sym (seen_twice xs i c.loop-number-test.true (sym (before.1 (get_or xs i 0) below) ∙ mark) before.2)

pub loop-number-preserved : goal.loop-number-preserved
loop-number-preserved c =
    let xs = c.args.numbers.now in
    let i : ℕ = c.loop-number.number-index in
    let seen = c.loop-number.seen.items in
    let before = c.loop-number.invariant in
    let below : get_or xs i 0 < c.args.bound = c.requires i 0 c.loop-number-test.true in
    let mark = marked seen (get_or xs i 0) c.index.result.now false (omega (arith, below, before.0)) c.index.ensures c.if-index.false in (
      length-set seen (get_or xs i 0) true ∙ before.0,
      mark_more seen c.args.bound xs i c.loop-number-test.true before.0 below before.1,
      seen_once xs i c.loop-number-test.true (sym (before.1 (get_or xs i 0) below) ∙ mark) before.2,
    )
