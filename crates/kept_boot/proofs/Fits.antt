-- The package of a fresh entry fits its inbox slot, where its release is being installed.
use Rattle.std.proofs.Common.{◌≡◌, inl, inr, ℕ, zero, suc, ◌-◌, ◌≤◌, Bool, true, cond, List, [], ◌++◌, Some, length, take, drop, get_or, refl, sym as flip, ap, ◌∙◌, subst, arith, slice_range}
use Rattle.std.specs.Prelude.{slice_get}
use Rattle.std.proofs.lemmas.Bool.{cases_lt}
use Rattle.std.proofs.lemmas.List.{take_at, drop_all, length-take, append-nil}
use Rattle.flash_pages.specs.State.{State}
use Rattle.component_package.specs.declared.part.Header.{Header}
use Rattle.component_package.specs.packages.Component.{Component}
use Rattle.component_package.specs.packages.Reading.{header_of, header_of_component, exports_at, total_of}
use Rattle.component_package.proofs.Laws.{steps_find_the_fault}
use Rattle.component_package.proofs.Lists.{all_at}
use Rattle.kept_definitions.specs.Runs.{run_of, run_in_package}
use Rattle.kept_definitions.specs.Stored.{Placed, StoredRelease, Stores}
use Rattle.kept_definitions.specs.Kept.{table_run, going_packages, HoldPackages}
use Rattle.kept_definitions.specs.Sides.{Parts, chosen_side, is_pending, going_set}
use Rattle.kept_definitions.specs.Sound.{IsSound, IsGoing}
use Rattle.kept_laws.specs.Laws.{Begins, HasGoingRun}
use Rattle.kept_laws.proofs.Sets.{going_is_the_set}
use Rattle.kept_laws.proofs.Store.{run_tells}
use Rattle.kept_laws.proofs.Stored.{release_one}
use Rattle.kept_store.proofs.RestLemmas.{pair_of, header_fits}
use Rattle.kept_journal.specs.Steps.{parts}
use Rattle.kept_store.specs.Tables.{FitsSlot}

-- the run of a package has the package's header
packed_header : (slot : List ℕ) → header_of (run_in_package slot) ≡ header_of slot
packed_header slot =
    let h = header_of slot in
    let tail = slice_range slot (exports_at h) (total_of h) in
    elim (cases_lt (length slot) 32) [
      | inl small ↦
          let none : drop (exports_at h) slot ≡ [] = drop_all (exports_at h) slot (omega (arith, small)) in
          let gone : tail ≡ [] = ap (take (total_of h - exports_at h)) none ∙ take_none (total_of h - exports_at h) in
          ap (λ (x : List ℕ). header_of (take 32 slot ++ x)) gone ∙ ap header_of (append-nil (take 32 slot)) ∙ steps_find_the_fault.header slot
      | inr large ↦
          let n : length (take 32 slot) ≡ 32 = omega (arith, large, length-take 32 slot) in
          flip (steps_find_the_fault.header (take 32 slot ++ tail)) ∙ ap header_of (take_at (take 32 slot) tail 32 n) ∙ steps_find_the_fault.header slot
    ]
  where
    take_none : (n : ℕ) → take {A = ℕ} n [] ≡ []
    take_none zero = refl
    take_none (suc n) = refl

-- a slot with the run of a component, whose package is an entry's
fits_by_run : (slot : List ℕ) (c : Component) (n : ℕ) → run_in_package slot ≡ run_of c → total_of (header_of_component c) ≡ n → n ≤ 9984 → total_of (header_of slot) ≤ 9984
fits_by_run slot c n run size few =
    let begins : Begins (run_of c) (run_of c) = record { rest = []; is = flip (append-nil (run_of c)) } in
    let header : header_of slot ≡ header_of_component c = flip (packed_header slot) ∙ ap header_of run ∙ run_tells.header (run_of c) c begins in
    subst (λ (h : Header). total_of h ≤ 9984) (flip header) (omega (arith, size, few))

-- the runs of a release that is being installed
going_runs : (p : Parts) (m : StoredRelease) → IsSound p → is_pending p ≡ true → Stores (chosen_side p) m → HoldPackages m.placed (going_packages p.tables p.inbox p.staged m)
unfolding IsGoing
going_runs p m sound pending stores =
    let (n, there, holds, pages) = sound.going pending in
    subst (λ (x : StoredRelease). HoldPackages x.placed (going_packages p.tables p.inbox p.staged x)) (release_one (chosen_side p) n m there stores) holds

-- a package that goes fits its slot
pub chosen_fits : (s : State) (m : StoredRelease) (k : ℕ) (p : Placed) → IsSound (parts s) → is_pending (parts s) ≡ true → Stores (chosen_side (parts s)) m → slice_get m.placed k ≡ Some p
    → p.fresh ≡ true → FitsSlot p.slot s
chosen_fits s m k p sound pending stores at fresh =
    let q = parts s in
    let found = going_is_the_set.found q.tables q.inbox q.staged m (going_runs q m sound pending stores) in
    let (c, there, is) = pair_of (HasGoingRun q.tables q.inbox) m.placed (going_set q.tables q.inbox q.staged m) k p found at in
    let entry = all_at _ m.placed k p stores.stored.entries at in
    let run : run_in_package (get_or q.inbox p.slot []) ≡ run_of c = flip (ap (λ (b : Bool). cond b (run_in_package (get_or q.inbox p.slot [])) (table_run q.tables p)) fresh) ∙ is.run in
    fits_by_run (get_or q.inbox p.slot []) c p.entry.length run (header_fits p.entry c is.entry).total entry.most
