-- What a change at one key of a map leaves at the others.
use Rattle.std.proofs.Common.{◌≡◌, ◌≢◌, ⊎_elim, ℕ, Bool, true, false, List, Option, Some, sym, ap, ◌∙◌}
use Rattle.std.specs.Prelude.{Vec}
use Rattle.std.specs.declared.cmp.Ordering.{Ordering}
use Rattle.std.specs.Ordering.{is_eq, nat_cmp, eq_by_cmp, ordering_then}
use Rattle.std.specs.Cmp.{IsTotalOrder, eq_by_cmp_equiv, Equal-is, nat_cmp_total, on_total, then_total}
use Rattle.std.specs.Cmp.Lexicographic.{slice_cmp, nat_list_cmp_total}
use Rattle.std.specs.BTreeMap.{BTreeMap, get_by, is_at, UpdatesBy}
use Rattle.std.specs.Map.{lookup, IsKeyTest, AreApart, KeepsOthers}
use Rattle.std.proofs.lemmas.Bool.{cases_Bool}
use Rattle.std.proofs.lemmas.Map.Lookups.{CmpEqualImpliesEq, exact_unsigned, exact_bytes, exact_pairs}
use Rattle.release_keeper.specs.Index.{Notes}
use Rattle.release_keeper.proofs.Index.{Noted}

module _ {K X : Type 0} (eq : K → K → Bool) (test : K → Bool) where
  other_entries : (old new : List (K × X)) → KeepsOthers eq test old new → (other : K → Bool) → IsKeyTest eq other → AreApart test other → lookup other new ≡ lookup other old
  unfolding KeepsOthers
  other_entries old new kept = kept

-- keys are ordered by what `read` reads of them
module _ {K Key : Type 0} (order : Key → Key → Ordering) (total : IsTotalOrder order) (exact : CmpEqualImpliesEq order) (read : K → Key) where
  pub others_stay : {X : Type 0} (k : Key) (m n : BTreeMap K X) (w : Option X) → UpdatesBy (λ x y. order (read x) (read y)) (λ x. order k (read x)) m n w
      → (key : Key) → key ≢ k → get_by (λ x. order key (read x)) n ≡ get_by (λ x. order key (read x)) m
  others_stay k m n w updates key apart =
      other_entries (eq_by_cmp (λ x y. order (read x) (read y))) (is_at (λ x. order k (read x))) m.entries n.entries updates.3 (is_at (λ x. order key (read x)))
      (λ x y. (eq_by_cmp_equiv total).congr key (read x) (read y))
      (λ x here. ⊎_elim
      (λ there. absurd (apart (exact key (read x) ((Equal-is (order key (read x))).0 there) ∙ sym (exact k (read x) ((Equal-is (order k (read x))).0 here)))))
      (λ elsewhere. elsewhere)
      (cases_Bool (is_eq (order key (read x)))))

  pub noted : (known : Bool) (m n : BTreeMap K ℕ) (key : K) (place : ℕ) → Notes (λ x y. order (read x) (read y)) known m n key place
      → Noted known (λ q. get_by (λ x. order q (read x)) m) (λ q. get_by (λ x. order q (read x)) n) (read key) place
  noted known m n key place notes = record {
    same = λ t q. ap (λ (es : List (K × ℕ)). lookup (is_at (λ x. order q (read x))) es) (notes.same t);
    here = λ f. (notes.updates f).1;
    others = λ f. others_stay (read key) m n (Some place) (notes.updates f);
  }

-- names, numbers, and pairs of a number or a name and a number
pub names_total : IsTotalOrder (slice_cmp nat_cmp)
names_total = nat_list_cmp_total

abbrev pub pair_cmp : {A : Type 0} → (A → A → Ordering) → (A × ℕ) → (A × ℕ) → Ordering
pair_cmp cmp x y = ordering_then (cmp x.0 y.0) (nat_cmp x.1 y.1)

pub pairs_total : {A : Type 0} (cmp : A → A → Ordering) → IsTotalOrder cmp → IsTotalOrder (pair_cmp cmp)
pairs_total {A} cmp total = then_total (on_total {K = A × ℕ} (λ p. p.0) total) (on_total {K = A × ℕ} (λ p. p.1) nat_cmp_total)

pub pairs_exact : {A : Type 0} (cmp : A → A → Ordering) → CmpEqualImpliesEq cmp → CmpEqualImpliesEq (pair_cmp cmp)
pairs_exact cmp exact = exact_pairs cmp nat_cmp exact exact_unsigned
