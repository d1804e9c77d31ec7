use Rattle.std.proofs.Common.{rules, ◌≡◌, ℕ, Bor}
use Rattle.object_packer.specs.declared.kept.Kept.{Kept}
use Rattle.std.proofs.lemmas.List.Sorted.{IsNonDecreasingBy-from_sort_by_key}
use Rattle.std.proofs.lemmas.Fn.{always_returns_same}
use Rattle.object_packer.proofs.Sorting.{stable_sorted}
use Rattle.object_packer.proofs.order.in_order.Goals as goal

pub returns : goal.returns
returns c = stable_sorted (λ x. x.position) c.args.kept.items c.sort_by_key.new.self.items
    (IsNonDecreasingBy-from_sort_by_key (λ x. x.position) _ c.in_ok-sort_by_key.ensures.sorted (λ a r q k. search rules))
    (c.in_ok-sort_by_key.ensures.stable (λ x. x.position) (always_returns_same _ (λ (a : Bor Kept × Unit {0}) (r : ℕ). r ≡ a.0.now.position) _ (λ a r q k. search rules)))
