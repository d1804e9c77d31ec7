-- An area whose pages are written one after another.
use Rattle.std.proofs.Common.{◌≡◌, ◌≢◌, ℕ, ◌+◌, ◌-◌, ◌<◌, ◌≤◌, ◌⊎◌, inl, inr, ⊎_elim, List, [], length, get_or, Some, refl, sym, ap, ◌∙◌, subst, arith}
use Rattle.std.proofs.lemmas.Bool.{cases_lt, cases_eq}
use Rattle.std.proofs.lemmas.Bool.Decides.{nat_tests}
use Rattle.std.proofs.lemmas.Option.{same_Some}
use Rattle.flash_pages.specs.State.{State, IsState, Place, Prog, Ext, page_at, with_page, MayHold}
use Rattle.flash_pages.specs.Board.{View, Told, Reads, Programs, WearsOnce}
use Rattle.flash_pages.specs.Moments.{LeavesOnly}
use Rattle.flash_pages.proofs.Pages.{page_at-apart, page_at-with_page}
use Rattle.flash_pages.proofs.Runs.{starts, reads, programs, weaker}
use Rattle.external_flash.specs.Areas.{Differs}
use Rattle.kept_relocs.specs.Written.{IsOther, IsIn}

-- ---- places

-- a place by its page
same_page : (p q : ℕ) → Ext p ≡ Ext q → p ≡ q
same_page p q e = cc

-- a place is this page or another
same_place : (a : Place) (q : ℕ) → (a ≡ Ext q) ⊎ (a ≢ Ext q)
same_place (Prog p) q = inr (λ e. cc)
same_place (Ext p) q = elim (cases_eq p q) [ inl e ↦ inl (ap Ext e) | inr other ↦ inr (λ e. other (same_page p q e)) ]

-- another page of an area is another place
pub other_page : (first p q : ℕ) → p ≢ q → Ext (first + p) ≢ Ext (first + q)
other_page first p q other e = other (let same = same_page (first + p) (first + q) e in omega (arith, same))

-- ---- wear

-- of the area's pages only the first were programmed, each once at most
pub record IsWorn (first done : ℕ) (old new : View) : Type 0 where
  pub others : (place : Place) → ((p : ℕ) → p < done → place ≢ Ext (first + p)) → new.programs place ≡ old.programs place
  pub once : (place : Place) → new.programs place ≤ old.programs place + 1

-- and none of them that holds already what it becomes
abbrev pub Spares : ℕ → ℕ → State → (ℕ → List ℕ) → View → View → Type 0
Spares first done s target old new =
    (p : ℕ) → p < done → (page_at s (Ext (first + p)) ≢ target p → ⊥) → new.programs (Ext (first + p)) ≡ old.programs (Ext (first + p))

pub worn_none : (first : ℕ) (v : View) → IsWorn first 0 v v
worn_none first v = record { others = λ place none. refl; once = λ place. omega arith }

pub worn_reads : (first done : ℕ) (old mid new : View) → IsWorn first done old mid → Reads mid new → IsWorn first done old new
worn_reads first done old mid new w r = record {
  others = λ place none. r.programs place ∙ w.others place none;
  once = λ place. omega (arith, r.programs place, w.once place);
}

pub spares_reads : (first done : ℕ) (s : State) (target : ℕ → List ℕ) (old mid new : View) → Spares first done s target old mid → Reads mid new → Spares first done s target old new
spares_reads first done s target old mid new sp r p lt free = r.programs (Ext (first + p)) ∙ sp p lt free

-- one page more
pub worn_more : (first done : ℕ) (needed : State → Type 0) (old mid new : View) (t : State) → IsWorn first done old mid → mid.state ≡ Some t
    → Programs needed (Ext (first + done)) mid new → IsWorn first (done + 1) old new
worn_more first done needed old mid new t w told p =
    let here : mid.programs (Ext (first + done)) ≡ old.programs (Ext (first + done)) = w.others (Ext (first + done)) (λ q lt. other_page first done q (λ e. omega (arith, lt, e))) in
    record {
      others = λ place none. p.others t place told (none done (omega arith)) ∙ w.others place (λ q lt. none q (omega (arith, lt)));
      once = λ place.
          ⊎_elim
          (λ same. subst (λ (a : Place). new.programs a ≤ old.programs a + 1) (sym same) (omega (arith, (p.at_most t told).0, here)))
          (λ apart. omega (arith, p.others t place told apart, w.once place))
          (same_place place (first + done));
    }

pub spares_more : (first done : ℕ) (s t : State) (target : ℕ → List ℕ) (old mid new : View) → IsWorn first done old mid → Spares first done s target old mid → mid.state ≡ Some t
    → page_at t (Ext (first + done)) ≡ page_at s (Ext (first + done)) → Programs (Differs (Ext (first + done)) (target done)) (Ext (first + done)) mid new → Spares first (done + 1) s target old new
spares_more first done s t target old mid new w sp told same program p lt free =
    elim (cases_lt p done) [
      | inl below ↦ program.others t (Ext (first + p)) told (other_page first p done (λ e. omega (arith, below, e))) ∙ sp p below free
      | inr from ↦
          let is : p ≡ done = omega (arith, lt, from) in
          let here : mid.programs (Ext (first + done)) ≡ old.programs (Ext (first + done)) = w.others (Ext (first + done)) (λ q lt. other_page first done q (λ e. omega (arith, lt, e))) in
          let free_here : (page_at s (Ext (first + done)) ≢ target done) → ⊥ = subst (λ (k : ℕ). (page_at s (Ext (first + k)) ≢ target k) → ⊥) is free in
          subst (λ (k : ℕ). new.programs (Ext (first + k)) ≡ old.programs (Ext (first + k))) (sym is) ((program.none t told (λ differs. free_here (λ e. differs (same ∙ e)))).0 ∙ here)
    ]

-- one told state has all that is said of wear
pub told_wears : (needed : State → Place → Type 0) (old new : View) → Told old (λ s. WearsOnce needed old new) → WearsOnce needed old new
told_wears needed old new told = record { once = λ s is. (told s is).once s is; none = λ s is. (told s is).none s is }

-- so the area's pages alone wear
pub wears_in : (first last done : ℕ) (old new : View) → first + done ≤ last + 1 → IsWorn first done old new → WearsOnce (λ s. IsIn first last) old new
wears_in first last done old new within w = record {
  once = λ s told. w.once;
  none = λ s told place free. w.others place (λ p lt e. free (subst (IsIn first last) (sym e) (inside p lt)));
}
  where
    inside : (p : ℕ) → p < done → IsIn first last (Ext (first + p))
    inside p lt = grind (arith, nat_tests)

-- and those alone that aren't yet what they become
pub wears_other : (first done : ℕ) (pages : List (List ℕ)) (s : State) (old new : View) → old.state ≡ Some s → done ≤ length pages → IsWorn first done old new
    → Spares first done s (λ p. get_or pages p []) old new → WearsOnce (IsOther first pages) old new
wears_other first done pages s old new told within w sp = record {
  once = λ t is. w.once;
  none = λ t is place free. none place (λ other. free (subst (λ (x : State). IsOther first pages x place) (same_Some s t (sym told ∙ is)) other));
}
  where
    none : (place : Place) → (IsOther first pages s place → ⊥) → new.programs place ≡ old.programs place
    none (Prog q) free = w.others (Prog q) (λ p lt e. absurd cc)
    none (Ext q) free =
        elim (cases_lt q first) [
          | inl below ↦ w.others (Ext q) (λ p lt e. let same = same_page q (first + p) e in absurd (omega (arith, same, below)))
          | inr from ↦ elim (cases_lt q (first + done)) [
            | inr past ↦ w.others (Ext q) (λ p lt e. let same = same_page q (first + p) e in absurd (omega (arith, same, past, lt)))
            | inl inside ↦
                let is : q ≡ first + (q - first) = omega (arith, from) in
                subst (λ (k : ℕ). new.programs (Ext k) ≡ old.programs (Ext k)) (sym is)
                (sp (q - first) (omega (arith, from, inside)) (λ differs.
                let other : page_at s (Ext q) ≢ get_or pages (q - first) [] = subst (λ (k : ℕ). page_at s (Ext k) ≢ get_or pages (q - first) []) (sym is) differs in
                free (record { page = q - first; within = omega (arith, from, inside, within); is = ap Ext is; differs = other })))
          ]
        ]

-- ---- passes

-- the first pages of the area were written since old, the others are as they were, and nothing else changed but as it may
pub record IsPassed (first : ℕ) (Only : State → State → Type 0) (done : ℕ) (s : State) (old new : View) : Type 0 where
  pub run : LeavesOnly (Only s) done old new
  pub left : (p : ℕ) → done ≤ p → page_at run.end (Ext (first + p)) ≡ page_at s (Ext (first + p))
  pub worn : IsWorn first done old new

-- the pages that were written hold these bytes
abbrev pub HoldsFirst : ℕ → ℕ → State → (ℕ → List ℕ) → Type 0
HoldsFirst first done x target = (p : ℕ) → p < done → page_at x (Ext (first + p)) ≡ target p

pub passed_none : (first : ℕ) (Only : State → State → Type 0) (s : State) (v : View) → Only s s → v.state ≡ Some s → IsPassed first Only 0 s v v
passed_none first Only s v here told =
    let run = starts (Only s) v s told here in
    record {
      run = run;
      left = λ p le. ap (λ (x : State). page_at x (Ext (first + p))) (same_Some run.end s (sym run.told ∙ told));
      worn = worn_none first v;
    }

module _ (first : ℕ) (Only : State → State → Type 0) (done : ℕ) (s : State) (old mid new : View) (pass : IsPassed first Only done s old mid) where
  -- a read changes nothing
  pub passed_reads : Reads mid new → IsPassed first Only done s old new
  passed_reads r =
      let run = reads (Only s) done old mid new pass.run r in
      let same : run.end ≡ pass.run.end = same_Some run.end pass.run.end (sym run.told ∙ r.state ∙ pass.run.told) in
      record {
        run = run;
        left = λ p le. ap (λ (x : State). page_at x (Ext (first + p))) same ∙ pass.left p le;
        worn = worn_reads first done old mid new pass.worn r;
      }

  module _ (needed : State → Type 0) (program : Programs needed (Ext (first + done)) mid new) (step : (y : State) → MayHold needed (Ext (first + done)) pass.run.end y → Only s y) where
    -- a program of the next page, done or failed
    pub passes : LeavesOnly (Only s) (done + 1) old new
    passes = programs (Only s) done needed (Ext (first + done)) old mid new pass.run.end pass.run pass.run.told program step

    pub wears : IsWorn first (done + 1) old new
    wears = worn_more first done needed old mid new pass.run.end pass.worn pass.run.told program

    -- the next page is written
    pub passed_more : (bytes : List ℕ) → new.state ≡ Some (with_page pass.run.end (Ext (first + done)) bytes) → IsPassed first Only (done + 1) s old new
    passed_more bytes told =
        let same : passes.end ≡ with_page pass.run.end (Ext (first + done)) bytes = same_Some passes.end (with_page pass.run.end (Ext (first + done)) bytes) (sym passes.told ∙ told) in
        record {
          run = passes;
          left = λ p le.
              ap (λ (x : State). page_at x (Ext (first + p))) same
              ∙ page_at-apart pass.run.end (Ext (first + done)) (Ext (first + p)) bytes (other_page first p done (λ e. omega (arith, le, e)))
              ∙ pass.left p (omega (arith, le));
          worn = wears;
        }

-- what the pages hold after one more
pub holds_more : (first done : ℕ) (x y : State) (target : ℕ → List ℕ) (bytes : List ℕ) → IsState x → first + done < 2048 → y ≡ with_page x (Ext (first + done)) bytes → bytes ≡ target done
    → HoldsFirst first done x target → HoldsFirst first (done + 1) y target
holds_more first done x y target bytes sizes within is bytes_are holds p lt =
    elim (cases_lt p done) [
      | inl below ↦
          ap (λ (z : State). page_at z (Ext (first + p))) is ∙ page_at-apart x (Ext (first + done)) (Ext (first + p)) bytes (other_page first p done (λ e. omega (arith, below, e))) ∙ holds p below
      | inr from ↦
          let same : p ≡ done = omega (arith, lt, from) in
          subst (λ (k : ℕ). page_at y (Ext (first + k)) ≡ target k) (sym same)
          (ap (λ (z : State). page_at z (Ext (first + done))) is ∙ page_at-with_page x (first + done) bytes sizes within ∙ bytes_are)
    ]

-- ---- one page of a pass over an area of `count` pages

module _ (first last count : ℕ) (ends : first + count ≡ last + 1) (Only : State → State → Type 0)
    (step : (s t y : State) (page : ℕ) (needed : State → Type 0) → first ≤ page → page ≤ last → Only s t → MayHold needed (Ext page) t y → Only s y)
    (s : State) (old mid read : View) (p : ℕ) (within : p < count) (pass : IsPassed first Only p s old mid) (r : Reads mid read) where
  -- behind a read
  pub passed_here : IsPassed first Only p s old read
  passed_here = passed_reads first Only p s old mid read pass r

  pub each_read : LeavesOnly (Only s) count old read
  each_read = weaker (Only s) (Only s) p count old read (omega (arith, within)) (λ x here. here) passed_here.run

  pub once_read : WearsOnce (λ s. IsIn first last) old read
  once_read = wears_in first last p old read (omega (arith, within, ends)) passed_here.worn

  pub wear_read : (pages : List (List ℕ)) → length pages ≡ count → Spares first p s (λ q. get_or pages q []) old mid → old.state ≡ Some s → WearsOnce (IsOther first pages) old read
  wear_read pages long sp told = wears_other first p pages s old read told (omega (arith, within, long)) passed_here.worn (spares_reads first p s (λ q. get_or pages q []) old mid read sp r)

  module _ (new : View) (bytes : List ℕ) (program : Programs (Differs (Ext (first + p)) bytes) (Ext (first + p)) read new) where
    -- behind a program, done or failed
    may_be : (y : State) → MayHold (Differs (Ext (first + p)) bytes) (Ext (first + p)) passed_here.run.end y → Only s y
    may_be y may = step s passed_here.run.end y (first + p) (Differs (Ext (first + p)) bytes) (omega arith) (omega (arith, within, ends)) passed_here.run.ends may

    pub each_program : LeavesOnly (Only s) count old new
    each_program =
        weaker (Only s) (Only s) (p + 1) count old new (omega (arith, within)) (λ x here. here) (passes first Only p s old read new passed_here (Differs (Ext (first + p)) bytes) program may_be)

    pub once_program : WearsOnce (λ s. IsIn first last) old new
    once_program = wears_in first last (p + 1) old new (omega (arith, within, ends)) (wears first Only p s old read new passed_here (Differs (Ext (first + p)) bytes) program may_be)

    pub spares_next : (target : ℕ → List ℕ) → bytes ≡ target p → Spares first p s target old mid → Spares first (p + 1) s target old new
    spares_next target is sp =
        spares_more first p s passed_here.run.end target old read new passed_here.worn (spares_reads first p s target old mid read sp r) passed_here.run.told (passed_here.left p (omega arith))
        (subst (λ (b : List ℕ). Programs (Differs (Ext (first + p)) b) (Ext (first + p)) read new) is program)

    pub wear_program : (pages : List (List ℕ)) → length pages ≡ count → bytes ≡ get_or pages p [] → Spares first p s (λ q. get_or pages q []) old mid → old.state ≡ Some s
        → WearsOnce (IsOther first pages) old new
    wear_program pages long is sp told =
        wears_other first (p + 1) pages s old new told (omega (arith, within, long))
        (wears first Only p s old read new passed_here (Differs (Ext (first + p)) bytes) program may_be) (spares_next (λ q. get_or pages q []) is sp)

    module _ (done : (t : State) → read.state ≡ Some t → new.state ≡ Some (with_page t (Ext (first + p)) bytes)) where
      -- behind a program that was done
      pub pass_next : IsPassed first Only (p + 1) s old new
      pass_next = passed_more first Only p s old read new passed_here (Differs (Ext (first + p)) bytes) program may_be bytes (done passed_here.run.end passed_here.run.told)

      pub holds_next : first + count ≤ 2048 → (target : ℕ → List ℕ) → bytes ≡ target p → ((x : State) → mid.state ≡ Some x → HoldsFirst first p x target)
          → (y : State) → new.state ≡ Some y → HoldsFirst first (p + 1) y target
      holds_next fits target is holds y told =
          let x = passed_here.run.end in
          let before : mid.state ≡ Some x = sym r.state ∙ passed_here.run.told in
          let sizes = read.sizes x passed_here.run.told in
          let now : y ≡ with_page x (Ext (first + p)) bytes = same_Some y (with_page x (Ext (first + p)) bytes) (sym told ∙ done x passed_here.run.told) in
          holds_more first p x y target bytes sizes (omega (arith, within, fits)) now is (holds x before)
