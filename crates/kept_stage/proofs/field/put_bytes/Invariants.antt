use Rattle.std.proofs.Common.{◌≡◌, ℕ, ◌+◌, ◌<◌, get_or}
use Rattle.kept_stage.specs.Windows.{byte_in}
use Rattle.kept_stage.proofs.field.put_bytes.Given as goal

abbrev pub invariant-loop-i : goal.invariant-loop-i
invariant-loop-i l = (k : ℕ) → k < 256 → get_or l.page k 0 ≡ byte_in l.patch.keep l.patch.set l.place l.i (l.base + k) (get_or l.initial.page k 0)
