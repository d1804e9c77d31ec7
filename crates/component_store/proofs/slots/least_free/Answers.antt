use Rattle.std.proofs.Common.{◌≡◌, ℕ, ◌++◌, true, false, sym, ◌∙◌, arith, below_more}
use Rattle.std.proofs.lemmas.List.Folds.{list_any-append}
use Rattle.std.proofs.Common.{eqb}
use Rattle.component_package.specs.mote.Store.{is_taken}
use Rattle.component_store.specs.Slots.{used_slots}
use Rattle.component_store.proofs.SlotLemmas.{free_at, none_free}
use Rattle.component_store.proofs.slots.least_free.Goals as goal

pub returns-then-not-is_taken : goal.returns-then-not-is_taken
returns-then-not-is_taken c =
    let s : ℕ = c.loop-slot.slot in
    let here : is_taken (used_slots c.args.current.now ++ c.args.given.now) s ≡ false = list_any-append (λ t. eqb t s) (used_slots c.args.current.now) c.args.given.now ∙ sym c.is_taken.ensures ∙ c.if-not-is_taken.true in
    sym (free_at (used_slots c.args.current.now ++ c.args.given.now) s c.loop-slot.invariant here c.loop-slot-test.true)

pub loop-slot-preserved : goal.loop-slot-preserved
loop-slot-preserved c =
    let s : ℕ = c.loop-slot.slot in
    let here : is_taken (used_slots c.args.current.now ++ c.args.given.now) s ≡ true = list_any-append (λ t. eqb t s) (used_slots c.args.current.now) c.args.given.now ∙ sym c.is_taken.ensures ∙ c.if-not-is_taken.false in
    below_more (λ k. is_taken (used_slots c.args.current.now ++ c.args.given.now) k ≡ true) s c.loop-slot.invariant here

pub returns : goal.returns
returns c = sym (none_free (used_slots c.args.current.now ++ c.args.given.now) (λ k lt. c.loop-slot.invariant k (omega (arith, lt, c.loop-slot-test.false))))
