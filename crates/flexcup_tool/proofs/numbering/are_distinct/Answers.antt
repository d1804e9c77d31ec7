use Rattle.std.proofs.Common.{◌≡◌, ◌+◌, false, get_or, drop, sym}
use Rattle.std.specs.Prelude.{◌==◌}
use Rattle.std.specs.List.{list_any}
use Rattle.flexcup_tool.proofs.Different.{checked_more, rest_of}
use Rattle.flexcup_tool.proofs.numbering.are_distinct.Goals as goal

pub loop-i-preserved : goal.loop-i-preserved
loop-i-preserved c =
    let xs = c.args.numbers.now in
    let i = c.loop-i.i in
    let new : list_any (λ n. n == get_or xs i 0) (drop (i + 1) xs) ≡ false = rw rest_of at (sym c.if-occurs.ensures) in
    checked_more xs i c.loop-i-test.true new c.loop-i.invariant
