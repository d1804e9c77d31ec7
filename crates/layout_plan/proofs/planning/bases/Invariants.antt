use Rattle.std.proofs.Common.{◌≡◌, ◌+◌, ◌≤◌, ◌*◌, take, length}
use Rattle.std.specs.List.{sum_by}
use Rattle.layout_plan.specs.Plan.{size_of, Begins}
use Rattle.layout_plan.proofs.planning.bases.Given as goal

abbrev pub invariant-loop-i : goal.invariant-loop-i
invariant-loop-i l = record {
  bases : Begins l.bases l.i (λ i. l.start + sum_by (size_of l.part) (take i l.sizes));
  total : l.sum ≡ sum_by (size_of l.part) (take l.i l.sizes);
  small : l.sum ≤ 65535 * l.i;
  room : length l.bases ≡ 16;
}
