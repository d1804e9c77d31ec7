-- How often each program page is programmed while the staged image is copied.
use Rattle.std.proofs.Common.{◌≡◌, inl, inr, ℕ, ◌+◌, ◌-◌, ◌<◌, ◌≤◌, [], Some, get_or, take, drop, refl, sym as flip, ◌∙◌, ap, subst, arith}
use Rattle.std.proofs.lemmas.Bool.{cases_eq}
use Rattle.std.proofs.lemmas.List.{get_or-append_right, get_or-drop, length-take-le}
use Rattle.flash_pages.specs.State.{State, Prog, IsState}
use Rattle.flash_pages.specs.Board.{View, Programs}
use Rattle.kept_journal.specs.Steps.{parts}
use Rattle.kept_boot.specs.Boots.{IsBehind, WearsProgram}
use Rattle.kept_boot.proofs.Copies.{copied_to, staged_of, length-staged}

-- after n pages
pub record Worn (n : ℕ) (behind : ℕ → Type 0) (old new : View) : Type 0 where
  pub wears : WearsProgram behind old new
  pub fresh : (page : ℕ) → n ≤ page → new.programs (Prog page) ≡ old.programs (Prog page)

pub worn_starts : (behind : ℕ → Type 0) (v : View) → Worn 0 behind v v
worn_starts behind v = record { wears = record { once = λ page. omega arith; none = λ page free. refl }; fresh = λ page from. refl }

pub worn_more : (n : ℕ) (here : State → Type 0) (behind : ℕ → Type 0) (old mid new : View) (t : State) → Worn n behind old mid → mid.state ≡ Some t → Programs here (Prog n) mid new → (here t → behind n) → Worn (n + 1) behind old new
worn_more n here behind old mid new t worn told program implies = record {
  wears = record { once = once; none = none };
  fresh = λ page from. program.others t (Prog page) told (λ same. let number : page ≡ n = cc in absurd (omega arith)) ∙ worn.fresh page (omega arith);
}
  where
    first : mid.programs (Prog n) ≡ old.programs (Prog n)
    first = worn.fresh n (omega arith)

    once : (page : ℕ) → new.programs (Prog page) ≤ old.programs (Prog page) + 1
    once page = elim (cases_eq page n) [
      | inl same ↦ subst (λ p. new.programs (Prog p) ≤ old.programs (Prog p) + 1) (flip same) (omega (arith, first, (program.at_most t told).0))
      | inr other ↦ omega (arith, worn.wears.once page, program.others t (Prog page) told (λ e. other cc))
    ]

    none : (page : ℕ) → (behind page → ⊥) → new.programs (Prog page) ≡ old.programs (Prog page)
    none page = elim (cases_eq page n) [
      | inl same ↦ λ free. subst (λ p. new.programs (Prog p) ≡ old.programs (Prog p)) (flip same) ((program.none t told (λ need. free (subst behind (flip same) (implies need)))).0 ∙ first)
      | inr other ↦ λ free. program.others t (Prog page) told (λ e. other cc) ∙ worn.wears.none page free
    ]

-- a page that isn't copied yet is as it was
page_still : (s : State) (n : ℕ) → IsState s → n < 480 → get_or (copied_to n s).prog n [] ≡ get_or s.prog n []
page_still s n sizes within =
    get_or-append_right (take n (staged_of s)) (drop n s.prog) n n [] (length-take-le n (staged_of s) (omega (arith, length-staged s sizes))) (omega arith)
    ∙ get_or-drop n s.prog (n - n) []
    ∙ (let same : n + (n - n) ≡ n = omega arith in ap (λ k. get_or s.prog k []) same)

pub behind_still : (s : State) (n : ℕ) → IsState s → n < 480 → IsBehind (parts (copied_to n s)) n → IsBehind (parts s) n
behind_still s n sizes within behind same = behind (page_still s n sizes within ∙ same)
