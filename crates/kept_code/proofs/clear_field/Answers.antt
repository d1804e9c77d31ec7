use Rattle.std.proofs.Common.{◌∷◌, [], ◌+◌, arith}
use Rattle.std.specs.Prelude.{slice_index, bit_and}
use Rattle.kept_definitions.specs.Runs.{bits_kept}
use Rattle.kept_code.proofs.Cleared.{filled}
use Rattle.kept_code.proofs.clear_field.Goals as goal

pub returns : goal.returns
returns c =
    let inv = c.loop-i.invariant in
    filled (λ k. bit_and (slice_index c.args.into.now k) (bits_kept c.args.in_init (c.args.r.now ∷ []) (c.args.from + k))) c.args.into.now c.loop-i.into inv.0
    (λ k lt. inv.1 k (omega (arith, lt, c.loop-i-test.false)))
