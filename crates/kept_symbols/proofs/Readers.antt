-- What a reader of the area keeps.
use Rattle.std.proofs.Common.{◌≡◌, ℕ, zero, suc, ◌+◌, ◌-◌, ◌*◌, ◌/◌, ◌%◌, ◌<◌, List, [], ◌∷◌, take, drop, slice_index_or, replicate, Option, Some, None, refl, ap, ap₂, ◌∙◌, arith, slice_range}
use Rattle.std.specs.Prelude.{slice_get, IfSome}
use Rattle.flash_pages.specs.State.{State, IsState, Ext, page_at}
use Rattle.external_flash.proofs.Areas.{reads_one, bytes_from-area}
use Rattle.kept_symbols.specs.Stored.{symbol_area}

-- record i's bytes stand in page i / 32
pub raw_there : (s : State) (i : ℕ) → IsState s → i < 1024
    → slice_range (page_at s (Ext (18 + i / 32))) (8 * (i % 32)) (8 * (i % 32) + 8) ≡ take 8 (drop (8 * i) (symbol_area s))
raw_there s i is lt =
    let at : ℕ = 8 * i in
    let n1 : 8 * (i % 32) + 8 - 8 * (i % 32) ≡ 8 = omega arith in
    let page : i / 32 ≡ at / 256 = omega arith in
    let low : 8 * (i % 32) ≡ at % 256 = omega arith in
    ap (λ (n : ℕ). take n (drop (8 * (i % 32)) (page_at s (Ext (18 + i / 32))))) n1
    ∙ ap₂ (λ (a p : ℕ). take 8 (drop a (page_at s (Ext (18 + p))))) low page
    ∙ reads_one s 18 at is 8 (omega arith) (omega arith) (omega arith)
    ∙ bytes_from-area 18 32 at 8 s is (omega arith) (omega arith)

-- nothing is remembered at first
pub none_first : (n p first : ℕ) → slice_get (replicate {A = Option ℕ} n None) p ≡ Some (Some first) → ⊥
none_first zero p first e = absurd cc
none_first (suc n) zero first e = absurd cc
none_first (suc n) (suc p) first e = none_first n p first e

-- what is said of a first symbol that is remembered
pub first_said : (firsts : List (Option ℕ)) (k : ℕ) (P : ℕ → Type 0) → ((n : ℕ) → slice_get firsts k ≡ Some (Some n) → P n) → IfSome (slice_index_or firsts k None) P
first_said [] k P said = tt {0}
first_said (None ∷ firsts) zero P said = tt {0}
first_said (Some n ∷ firsts) zero P said = said n refl
first_said (o ∷ firsts) (suc k) P said = first_said firsts k P said
