use Rattle.std.proofs.Common.{◌≡◌, ◌≤◌, ◌*◌, take}
use Rattle.std.specs.List.{sum_by}
use Rattle.kept_relocs.proofs.check.sum_of.Given as goal

abbrev pub invariant-loop-k : goal.invariant-loop-k
invariant-loop-k l = record {
  sum : l.sum ≡ sum_by (λ h. h.relocs) (take l.k l.set.headers);
  small : l.sum ≤ 65535 * l.k;
}
