use Rattle.std.proofs.Common.{◌≡◌, ◌∷◌, [], ◌+◌, ◌<◌, ◌≤◌, length, ℕ}
use Rattle.std.specs.Prelude.{slice_index, bit_and}
use Rattle.kept_definitions.specs.Runs.{bits_kept}
use Rattle.kept_code.proofs.clear_field.Given as goal

abbrev pub invariant-loop-i : goal.invariant-loop-i
invariant-loop-i l = (length l.into ≡ length l.fn.into)
    × ((k : ℕ) → k < l.i → slice_index l.into k ≡ bit_and (slice_index l.fn.into k) (bits_kept l.fn.in_init (l.fn.r ∷ []) (l.fn.from + k)))
    × ((k : ℕ) → l.i ≤ k → slice_index l.into k ≡ slice_index l.fn.into k)
