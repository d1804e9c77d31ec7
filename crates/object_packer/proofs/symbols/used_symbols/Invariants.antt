use Rattle.std.proofs.Common.{◌≡◌, ℕ, ◌<◌, length, take, nat_eq, false, slice_index_or}
use Rattle.std.specs.List.{list_any}
use Rattle.object_packer.proofs.symbols.used_symbols.Given as goal

abbrev pub invariant-loop-x : goal.invariant-loop-x
invariant-loop-x l = record {
  count : length l.used.items ≡ l.count;
  used : (i : ℕ) → i < l.count → slice_index_or l.used.items i false ≡ list_any (λ x. nat_eq x.symbol i) (take l.x-index l.kept);
}
