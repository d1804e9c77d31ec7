use Rattle.std.proofs.Common.{ℕ, ◌∷◌, [], ◌++◌, true, false, Option, sym, ap, ◌∙◌, arith}
use Rattle.std.specs.Prelude.{option_to_list}
use Rattle.std.proofs.lemmas.List.{append-nil}
use Rattle.kept_symbols.proofs.WalkLemmas.{strong_one, strong_two, strong_few}
use Rattle.kept_symbols.proofs.walk.Walk.strong_pair.Goals as goal
use Rattle.kept_symbols.proofs.walk.Walk.strong_pair.Goals.{then-is_strong+in-None, else-is_strong}

pub returns-in-Some : goal.returns-in-Some
returns-in-Some c = λ set is at.
    strong_two set c.args.symbol c.loop-k.k c.in-Some.i c.args.self.now c.loop-k.first is at c.loop-k-test.true (sym c.is_strong.ensures ∙ c.if-is_strong.true) c.in-Some.is (c.loop-k.invariant set is at)

pub loop-k-preserved : goal.loop-k-preserved
loop-k-preserved c = λ set is at.
    let before = c.loop-k.invariant set is at in
    elim c.if-is_strong.branch [
      | then-is_strong+in-None w ↦
          strong_one set c.args.symbol c.loop-k.k c.args.self.now c.loop-k.first true is at c.loop-k-test.true (sym c.is_strong.ensures ∙ w.if-is_strong.true) before
          ∙ ap (λ (o : Option ℕ). option_to_list o ++ c.loop-k.k ∷ []) w.in-None.is ∙ ap (λ (o : Option ℕ). option_to_list o) (sym w.first-is)
      | else-is_strong w ↦
          strong_one set c.args.symbol c.loop-k.k c.args.self.now c.loop-k.first false is at c.loop-k-test.true (sym c.is_strong.ensures ∙ w.if-is_strong.false) before
          ∙ append-nil (option_to_list c.loop-k.first) ∙ ap (λ (o : Option ℕ). option_to_list o) (sym w.first-is)
    ]

pub returns : goal.returns
returns c = λ set is at.
    let last = c.loop-k-test.false in
    strong_few set c.args.symbol c.loop-k.k c.loop-k.first (omega (arith, at.count, last)) (c.loop-k.invariant set is at)
