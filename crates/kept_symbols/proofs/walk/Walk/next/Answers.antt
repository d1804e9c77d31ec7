use Rattle.std.proofs.Common.{ℕ, ◌+◌, ◌<◌, take, Option, refl, sym, subst, ap, ◌∙◌, arith}
use Rattle.std.specs.Prelude.{IfSome}
use Rattle.component_package.specs.declared.part.Export.{Export}
use Rattle.component_package.specs.link.Link.{exports_of}
use Rattle.kept_symbols.specs.Walks.{IsFirst, better_of}
use Rattle.kept_symbols.proofs.Exports.{pick}
use Rattle.kept_symbols.proofs.WalkLemmas.{next_more, next_all, below_more, below_all}
use Rattle.kept_symbols.proofs.walk.Walk.next.Goals as goal

pub loop-k-init : goal.loop-k-init
loop-k-init c = record { first = λ set low is at s le. refl; below = tt }

pub loop-k-preserved : goal.loop-k-preserved
loop-k-preserved c =
    let said = c.better-chosen.ensures ∙ ap (better_of c.loop-k.chosen c.loop-k.k) c.head.ensures in
    record {
      first = λ set low is at.
          subst (λ (o : Option (ℕ × Export)). IsFirst (λ s. pick s (exports_of (take (c.loop-k.k + 1) set))) low o) (sym said)
          (next_more set low c.loop-k.k c.args.self.now c.loop-k.chosen is at c.loop-k-test.true (c.loop-k.invariant.first set low is at));
      below = subst (λ (o : Option (ℕ × Export)). IfSome o (λ x. x.0 < c.loop-k.k + 1)) (sym c.better-chosen.ensures) (below_more c.loop-k.chosen c.loop-k.k c.head.result c.loop-k.invariant.below);
    }

pub returns-clause-first : goal.returns-clause-first
returns-clause-first c = λ set low is at.
    let last = c.loop-k-test.false in
    next_all set low c.loop-k.k c.loop-k.chosen (omega (arith, at.count, last)) (c.loop-k.invariant.first set low is at)

pub returns-clause-component : goal.returns-clause-component
returns-clause-component c = below_all c.loop-k.chosen c.loop-k.k c.args.self.now.count c.loop-k.auto.k-end c.loop-k.invariant.below
