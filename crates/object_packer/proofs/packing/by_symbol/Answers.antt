use Rattle.std.proofs.Common.{rules, ◌≡◌, ℕ, Bor}
use Rattle.std.proofs.lemmas.List.Sorted.{IsNonDecreasingBy-from_sort_by_key}
use Rattle.std.proofs.lemmas.Fn.{always_returns_same}
use Rattle.component_package.specs.declared.part.Export.{Export}
use Rattle.object_packer.proofs.Sorting.{stable_sorted}
use Rattle.object_packer.proofs.packing.by_symbol.Goals as goal

pub returns : goal.returns
returns c = stable_sorted (λ e. e.symbol) c.args.exports.items c.sort_by_key.new.self.items
    (IsNonDecreasingBy-from_sort_by_key (λ e. e.symbol) _ c.in_ok-sort_by_key.ensures.sorted (λ a r q k. search rules))
    (c.in_ok-sort_by_key.ensures.stable (λ e. e.symbol) (always_returns_same _ (λ (a : Bor Export × Unit {0}) (r : ℕ). r ≡ a.0.now.symbol) _ (λ a r q k. search rules)))
