-- How often a run of calls programs each page.
use Rattle.std.proofs.Common.{◌≡◌, ◌≢◌, ◌⊎◌, inl, inr, ⊎_elim, ℕ, ◌+◌, ◌≤◌, Some, refl, sym, ◌∙◌, ap, subst, arith}
use Rattle.std.proofs.lemmas.Bool.{cases_eq}
use Rattle.flash_pages.specs.State.{State, Place, Prog, Ext}
use Rattle.flash_pages.specs.Board.{View, Told, Reads, Programs, WearsOnce}

-- two places are the same or apart
pub same_or_apart : (a b : Place) → (a ≡ b) ⊎ (a ≢ b)
same_or_apart (Prog p) (Prog q) = ⊎_elim (λ same. inl (ap Prog same)) (λ apart. inr (λ e. apart (cc e))) (cases_eq p q)
same_or_apart (Ext p) (Ext q) = ⊎_elim (λ same. inl (ap Ext same)) (λ apart. inr (λ e. apart (cc e))) (cases_eq p q)
same_or_apart (Prog p) (Ext q) = inr (λ e. absurd (cc e))
same_or_apart (Ext p) (Prog q) = inr (λ e. absurd (cc e))

-- before the first call
pub wear_starts : (needed : State → Place → Type 0) (v : View) → WearsOnce needed v v
wear_starts needed v = record { once = λ s told place. omega arith; none = λ s told place free. refl }

-- a run, and then a read
pub wear_reads : (needed : State → Place → Type 0) (old mid new : View) → WearsOnce needed old mid → Reads mid new → WearsOnce needed old new
wear_reads needed old mid new wear read = record {
  once = λ s told place. omega (arith, wear.once s told place, read.programs place);
  none = λ s told place free. read.programs place ∙ wear.none s told place free;
}

-- one program of a page
pub wear_program : (here : State → Type 0) (needed : State → Place → Type 0) (place : Place) (old new : View) → Programs here place old new → Told old (λ s. here s → needed s place) → WearsOnce needed old new
wear_program here needed place old new program implies = record { once = once; none = none }
  where
    once : Told old (λ s. (other : Place) → new.programs other ≤ old.programs other + 1)
    once s told other = ⊎_elim
        (λ same. subst (λ p. new.programs p ≤ old.programs p + 1) (sym same) (program.at_most s told).0)
        (λ apart. omega (arith, program.others s other told apart))
        (same_or_apart other place)

    none : Told old (λ s. (other : Place) → (needed s other → ⊥) → new.programs other ≡ old.programs other)
    none s told other free = ⊎_elim
        (λ same. subst (λ p. new.programs p ≡ old.programs p) (sym same) (program.none s told (λ need. free (subst (needed s) (sym same) (implies s told need)))).0)
        (λ apart. program.others s other told apart)
        (same_or_apart other place)

-- two runs that need no page twice
pub wear_then : (first second needed : State → Place → Type 0) (old mid new : View) → WearsOnce first old mid → WearsOnce second mid new
    → Told old (λ s. (t : State) × (mid.state ≡ Some t) × ((place : Place) → (first s place → ⊥) ⊎ (second t place → ⊥))
    × ((place : Place) → first s place → needed s place) × ((place : Place) → second t place → needed s place))
    → WearsOnce needed old new
wear_then first second needed old mid new one two between = record {
  once = λ s told place.
      let b = between s told in
      ⊎_elim
      (λ free. omega (arith, one.none s told place free, two.once b.0 b.1 place))
      (λ free. omega (arith, one.once s told place, two.none b.0 b.1 place free))
      (b.2 place);
  none = λ s told place free.
      let b = between s told in
      two.none b.0 b.1 place (λ need. free (b.4 place need)) ∙ one.none s told place (λ need. free (b.3 place need));
}

-- a loop over pages: the first n of them were programmed where that was needed, and those from n on weren't yet
pub record WearsSoFar (at : ℕ → Place) (n : ℕ) (needed : State → Place → Type 0) (old new : View) : Type 0 where
  pub wears : WearsOnce needed old new
  pub fresh : Told old (λ s. (k : ℕ) → n ≤ k → new.programs (at k) ≡ old.programs (at k))

pub so_far_starts : (at : ℕ → Place) (needed : State → Place → Type 0) (v : View) → WearsSoFar at 0 needed v v
so_far_starts at needed v = record { wears = wear_starts needed v; fresh = λ s told k from. refl }

-- the program of page n
pub so_far_more : (at : ℕ → Place) → ((i j : ℕ) → at i ≡ at j → i ≡ j) → (n : ℕ) (here : State → Type 0) (needed : State → Place → Type 0) (old mid new : View)
    → WearsSoFar at n needed old mid → Programs here (at n) mid new → Told old (λ s. (t : State) × (mid.state ≡ Some t) × (here t → needed s (at n)))
    → WearsSoFar at (n + 1) needed old new
so_far_more at apart n here needed old mid new worn program between = record {
  wears = record { once = once; none = none };
  fresh = λ s told k from.
      let b = between s told in
      program.others b.0 (at k) b.1 (λ same. let number : k ≡ n = apart k n same in absurd (let q : ⊥ = omega (arith, number, from) in q)) ∙ worn.fresh s told k (omega (arith, from));
}
  where
    once : Told old (λ s. (place : Place) → new.programs place ≤ old.programs place + 1)
    once s told place =
        let b = between s told in
        ⊎_elim
        (λ same. subst (λ p. new.programs p ≤ old.programs p + 1) (sym same) (omega (arith, worn.fresh s told n (omega arith), (program.at_most b.0 b.1).0)))
        (λ other. omega (arith, worn.wears.once s told place, program.others b.0 place b.1 other))
        (same_or_apart place (at n))

    none : Told old (λ s. (place : Place) → (needed s place → ⊥) → new.programs place ≡ old.programs place)
    none s told place free =
        let b = between s told in
        ⊎_elim
        (λ same. subst (λ p. new.programs p ≡ old.programs p) (sym same) ((program.none b.0 b.1 (λ need. free (subst (needed s) (sym same) (b.2 need)))).0 ∙ worn.fresh s told n (omega arith)))
        (λ other. program.others b.0 place b.1 other ∙ worn.wears.none s told place free)
        (same_or_apart place (at n))

-- pages of one flash in their order are apart
pub prog_apart : (i j : ℕ) → Prog i ≡ Prog j → i ≡ j
prog_apart i j e = cc e

pub ext_apart : (first i j : ℕ) → Ext (first + i) ≡ Ext (first + j) → i ≡ j
ext_apart first i j e = let same : first + i ≡ first + j = cc e in omega (arith, same)
