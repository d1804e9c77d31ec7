use Rattle.std.proofs.Common.{◌≡◌, length, take, map}
use Rattle.layout_plan.specs.Plan.{room}
use Rattle.kept_symbols.specs.Stored.{header_room}
use Rattle.kept_symbols.proofs.planning.plan_of_set.Given as goal

abbrev pub invariant-loop-k : goal.invariant-loop-k
invariant-loop-k l = record {
  long : length l.sizes ≡ 16;
  rooms : map room (take l.k l.sizes) ≡ map header_room (take l.k l.set.headers);
}
