-- Runs that are brought into table slots, one after another.
use Rattle.std.proofs.Common.{◌≡◌, ◌≢◌, inl, inr, ℕ, zero, suc, ◌+◌, ◌*◌, ◌<◌, Bool, true, false, cond, List, [], ◌∷◌, ◌++◌, Some, length, set, refl, sym as flip, ap, ◌∙◌, subst, arith}
use Rattle.std.specs.Prelude.{IsTrue, ◌==◌, ◌&&◌, ◌||◌, map, slice_get, slice_index_or}
use Rattle.std.specs.List.{list_any}
use Rattle.std.proofs.lemmas.Bool.{false≢true, cases_lt}
use Rattle.std.proofs.lemmas.List.FromFn.{length-map-range_with_len}
use Rattle.flash_pages.specs.State.{State, Place}
use Rattle.flash_pages.specs.Board.{View, WearsOnce}
use Rattle.flash_pages.specs.Moments.{LeavesOnly}
use Rattle.flash_pages.proofs.Runs.{weaker}
use Rattle.component_package.specs.packages.Manifest.{AreDistinct}
use Rattle.component_package.specs.packages.Reading.{list_of}
use Rattle.component_package.proofs.Lists.{list_of_more}
use Rattle.kept_definitions.specs.Runs.{run_in_package}
use Rattle.kept_definitions.specs.Stored.{Placed, StoredRelease, Stores}
use Rattle.kept_definitions.specs.Kept.{slot_from, tables_of, going_run}
use Rattle.kept_definitions.specs.Sides.{Parts, chosen_side, is_pending}
use Rattle.kept_definitions.specs.Sound.{IsSound}
use Rattle.kept_definitions.specs.Headline.{StandsFor}
use Rattle.kept_definitions.specs.Machine.{Mote}
use Rattle.kept_laws.specs.Laws.{KeepsItsRun}
use Rattle.kept_laws.specs.Steps.{HasNoRun, Keeps}
use Rattle.kept_laws.proofs.Steps.{writing_keeps}
use Rattle.kept_laws.proofs.Stands.{standing_steps_stand}
use Rattle.kept_laws.proofs.Store.{tables_are_filled}
use Rattle.kept_laws.proofs.Stored.{release_one}
use Rattle.kept_manifests.specs.declared.pages.SlotManifest.{SlotManifest}
use Rattle.kept_manifests.specs.Slots.{IsSlotManifest, place_of, stored_of}
use Rattle.kept_store.proofs.OpenLemmas.{entry_here}
use Rattle.kept_store.proofs.RestLemmas.{slot_low}
use Rattle.kept_journal.specs.Steps.{parts, Stands, Step, Takes}
use Rattle.kept_journal.proofs.Takes.{takes_none, takes_more, takes_takes}
use Rattle.kept_store.specs.Tables.{with_run, table_pages, FitsSlot, KeepsRun, OnlyTable}
use Rattle.kept_boot.specs.Boots.{one_run, with_runs, one_table, fresh_tables, Installs}
use Rattle.kept_boot.specs.Bringing.{KeepsOne, Brings}
use Rattle.kept_boot.proofs.Fits.{chosen_fits}

-- ---- one entry

-- no other entry has a fresh one's slot
no_run : (m : SlotManifest) (k : ℕ) → IsSlotManifest m → k < m.manifest.count → (place_of m k).fresh ≡ true → HasNoRun (stored_of m) (place_of m k).slot
no_run m k is lt fresh = tables_are_filled.none (stored_of m) k (place_of m k) is.stored (entry_here m k lt) fresh

module _ (m : SlotManifest) (k : ℕ) (is : IsSlotManifest m) (lt : k < m.manifest.count) (s : State) (t : Mote) (stands : Stands s t) (installs : Installs (stored_of m) t) where
  pending : is_pending (parts s) ≡ true
  pending = flip stands.mote.standing ∙ installs.0

  stores : Stores (chosen_side (parts s)) (stored_of m)
  stores = subst (λ (n : StoredRelease). Stores (chosen_side (parts s)) n) installs.1 stands.mote.current.release

  module _ (fresh : (place_of m k).fresh ≡ true) where
    keeps_fresh : (bytes : List ℕ) → Keeps (parts s) (record (parts s) { tables = set (parts s).tables (place_of m k).slot bytes })
    keeps_fresh bytes = writing_keeps.table (parts s) (place_of m k).slot bytes stands.sound pending (λ n there.
        subst (λ (x : StoredRelease). HasNoRun x (place_of m k).slot) (release_one (chosen_side (parts s)) (stored_of m) n stores there) (no_run m k is lt fresh))

    stands_fresh : (bytes : List ℕ) → StandsFor (record (parts s) { tables = set (parts s).tables (place_of m k).slot bytes }) t
    stands_fresh bytes = standing_steps_stand.table (parts s) t (place_of m k).slot bytes stands.mote pending
        (subst (λ (x : StoredRelease). HasNoRun x (place_of m k).slot) (flip installs.1) (no_run m k is lt fresh))

    fits_fresh : FitsSlot (place_of m k).slot s
    fits_fresh = chosen_fits s (stored_of m) k (place_of m k) stands.sound pending stores (entry_here m k lt) fresh

length-tables : (ext : List (List ℕ)) → length (tables_of ext) ≡ 16
unfolding tables_of
length-tables ext = length-map-range_with_len (slot_from 1410 ext) 0 16

-- a page that isn't among those of a fresh entry's table slot isn't the slot's
not_of_table : (p : Placed) (place : Place) → p.fresh ≡ true → one_table p place ≡ false → table_pages p.slot place ≡ false
not_of_table p place fresh barred = flip (ap (λ (b : Bool). b && table_pages p.slot place) fresh) ∙ barred

-- what a cut leaves of a table slot
pub fresh_takes : (m : SlotManifest) (k : ℕ) (a b : View) (s : State) → IsSlotManifest m → k < m.manifest.count → (place_of m k).fresh ≡ true → a.state ≡ Some s
    → LeavesOnly (OnlyTable (place_of m k).slot s) 39 a b → WearsOnce (λ x place. IsTrue (table_pages (place_of m k).slot place)) a b
    → Takes (Step (Installs (stored_of m)) (one_table (place_of m k)) s) (one_table (place_of m k)) 39 a b
fresh_takes m k a b s is lt fresh told leaves worn = record {
  leaves = weaker (OnlyTable (place_of m k).slot s) (Step (Installs (stored_of m)) (one_table (place_of m k)) s) 39 39 a b (omega arith) step leaves;
  wears = λ place barred. worn.none s told place (λ is. false≢true (flip (not_of_table (place_of m k) place fresh barred) ∙ is));
}
  where
    step : (x : State) → OnlyTable (place_of m k).slot s x → Step (Installs (stored_of m)) (one_table (place_of m k)) s x
    step x only = record {
      pages = record { sent = only.pages.sent; page = λ place barred. only.pages.page place (not_of_table (place_of m k) place fresh barred) };
      prog = λ none. only.prog;
      keeps = λ t stands installs. subst (λ (q : Parts). Keeps (parts s) q) (flip only.parts_are) (keeps_fresh m k is lt s t stands installs fresh only.bytes);
    }

-- what is left where the run was written
pub fresh_keeps : (m : SlotManifest) (k : ℕ) (b : View) (s : State) (t : Mote) → IsSlotManifest m → k < m.manifest.count → (place_of m k).fresh ≡ true
    → b.state ≡ Some (with_run (place_of m k).slot s) → (FitsSlot (place_of m k).slot s → KeepsRun (place_of m k).slot s b) → Stands s t → Installs (stored_of m) t
    → KeepsOne (place_of m k) t s (with_run (place_of m k).slot s)
fresh_keeps m k b s t is lt fresh told kept stands installs = record {
  stands = record {
    sound = subst IsSound (flip parts_here) (keeps_fresh m k is lt s t stands installs fresh bytes).sound;
    mote = subst (λ (q : Parts). StandsFor q t) (flip parts_here) (stands_fresh m k is lt s t stands installs fresh bytes);
  };
  tables = set (parts s).tables p.slot bytes;
  parts_are = parts_here;
  run = subst (λ (run : List ℕ). KeepsItsRun (set (parts s).tables p.slot (run ++ one.rest)) (parts s).inbox p) run_is (tables_are_filled.filled (parts s).tables (parts s).inbox p one.rest slot_there);
  others = λ q apart keeps. tables_are_filled.others (parts s).tables (parts s).inbox q p.slot bytes apart keeps;
}
  where
    p : Placed
    p = place_of m k

    one : KeepsRun (place_of m k).slot s b
    one = kept (fits_fresh m k is lt s t stands installs fresh)

    bytes : List ℕ
    bytes = run_in_package (slice_index_or (parts s).inbox (place_of m k).slot []) ++ one.rest

    parts_here : parts (with_run (place_of m k).slot s) ≡ record (parts s) { tables = set (parts s).tables (place_of m k).slot bytes }
    parts_here =
        let both : Some one.end ≡ Some (with_run (place_of m k).slot s) = flip one.told ∙ told in
        let same : one.end ≡ with_run (place_of m k).slot s = cc in
        ap parts (flip same) ∙ one.parts_are

    run_is : going_run (parts s).tables (parts s).inbox p ≡ run_in_package (slice_index_or (parts s).inbox (place_of m k).slot [])
    run_is = cc

    slot_there : p.slot < length (parts s).tables
    slot_there = omega (arith, length-tables s.ext, slot_low m k is lt)

-- an entry that isn't fresh
pub held_takes : (m : SlotManifest) (p : Placed) (a : View) (s : State) → a.state ≡ Some s → Takes (Step (Installs (stored_of m)) (one_table p) s) (one_table p) 39 a a
held_takes m p a s told = takes_more (Step (Installs (stored_of m)) (one_table p) s) (one_table p) 0 39 a a (omega arith) (takes_none (Installs (stored_of m)) (one_table p) a s told)

pub held_keeps : (p : Placed) (s : State) (t : Mote) → p.fresh ≡ false → Stands s t → KeepsOne p t s s
held_keeps p s t held stands = record {
  stands = stands;
  tables = (parts s).tables;
  parts_are = refl;
  run = λ fresh. absurd (false≢true (flip held ∙ fresh));
  others = λ q apart keeps. keeps;
}

-- ---- all entries

-- one entry more
pub runs_more : (m : SlotManifest) (k : ℕ) (s : State) → with_runs (list_of (place_of m) (k + 1)) s ≡ one_run (place_of m k) (with_runs (list_of (place_of m) k) s)
runs_more m k s =
    let next : k + 1 ≡ suc k = omega arith in
    ap (λ (n : ℕ). with_runs (list_of (place_of m) n) s) next ∙ ap (λ (ps : List Placed). with_runs ps s) (list_of_more (place_of m) k) ∙ pushed (list_of (place_of m) k) s
  where
    pushed : (ps : List Placed) (x : State) → with_runs (ps ++ place_of m k ∷ []) x ≡ one_run (place_of m k) (with_runs ps x)
    pushed [] x = refl
    pushed (p ∷ ps) x = pushed ps (one_run p x)

-- slots of a release are apart
slot_among : (ps : List Placed) (k n : ℕ) (q : Placed) → slice_get ps k ≡ Some q → q.slot ≡ n → list_any (λ y. y == n) (map (λ p. p.slot) ps) ≡ true
slot_among [] k n q at same = absurd cc
slot_among (p ∷ ps) zero n q at same = grind arith
slot_among (p ∷ ps) (suc k) n q at same = let rest = slot_among ps k n q at same in grind arith

slots_apart : (ps : List Placed) (j k : ℕ) (p q : Placed) → AreDistinct (map (λ p. p.slot) ps) → j < k → slice_get ps j ≡ Some p → slice_get ps k ≡ Some q → p.slot ≢ q.slot
slots_apart [] j k p q distinct lt first second same = absurd cc
slots_apart (r ∷ ps) zero zero p q distinct lt first second same = absurd (omega (arith, lt))
slots_apart (r ∷ ps) zero (suc k) p q distinct lt first second same =
    let is : r ≡ p = cc in
    false≢true (flip distinct.0 ∙ slot_among ps k r.slot q second (flip same ∙ ap (λ (x : Placed). x.slot) (flip is)))
slots_apart (r ∷ ps) (suc j) zero p q distinct lt first second same = absurd (omega (arith, lt))
slots_apart (r ∷ ps) (suc j) (suc k) p q distinct lt first second same = slots_apart ps j k p q distinct.1 (omega (arith, lt)) first second same

-- one more has its run
pub brings_more : (m : SlotManifest) (k : ℕ) (t : Mote) (s x y : State) → IsSlotManifest m → k < m.manifest.count → Brings m k t s x → KeepsOne (place_of m k) t x y → Brings m (k + 1) t s y
brings_more m k t s x y is lt before one = record {
  stands = one.stands;
  tables = one.tables;
  parts_are = one.parts_are ∙ ap (λ (q : Parts). record q { tables = one.tables }) before.parts_are;
  runs = runs;
}
  where
    inbox_is : (parts x).inbox ≡ (parts s).inbox
    inbox_is = ap (λ (q : Parts). q.inbox) before.parts_are

    tables_are : (parts x).tables ≡ before.tables
    tables_are = ap (λ (q : Parts). q.tables) before.parts_are

    there : (q : Placed) → KeepsItsRun before.tables (parts s).inbox q → KeepsItsRun (parts x).tables (parts x).inbox q
    there q keeps = subst (λ (l : List (List ℕ)). KeepsItsRun (parts x).tables l q) (flip inbox_is) (subst (λ (l : List (List ℕ)). KeepsItsRun l (parts s).inbox q) (flip tables_are) keeps)

    runs : (j : ℕ) → j < k + 1 → KeepsItsRun one.tables (parts s).inbox (place_of m j)
    runs j below =
        subst (λ (l : List (List ℕ)). KeepsItsRun one.tables l (place_of m j)) inbox_is
        (elim (cases_lt j k) [
          | inl less ↦ one.others (place_of m j)
              (slots_apart (stored_of m).placed j k (place_of m j) (place_of m k) is.stored.apart less (entry_here m j (omega (arith, less, lt))) (entry_here m k lt))
              (there (place_of m j) (before.runs j less))
          | inr not_less ↦
              let same : k ≡ j = omega (arith, below, not_less) in
              subst (λ (i : ℕ). KeepsItsRun one.tables (parts x).inbox (place_of m i)) same one.run
        ])

pub brings_none : (m : SlotManifest) (t : Mote) (s : State) → Stands s t → Brings m 0 t s s
brings_none m t s stands = record { stands = stands; tables = (parts s).tables; parts_are = refl; runs = λ j none. absurd (omega (arith, none)) }

-- a page of no fresh entry's table slot is none of this one's
any_at : (P : Placed → Bool) (ps : List Placed) (k : ℕ) (p : Placed) → slice_get ps k ≡ Some p → P p ≡ true → list_any P ps ≡ true
any_at P [] k p at is = absurd cc
any_at P (q ∷ ps) zero p at is = let same : q ≡ p = cc in ap (λ (b : Bool). b || list_any P ps) (ap P same ∙ is)
any_at P (q ∷ ps) (suc k) p at is = let rest = any_at P ps k p at is in grind arith

pub table_less : (m : SlotManifest) (k : ℕ) (place : Place) → k < m.manifest.count → fresh_tables (stored_of m).placed place ≡ false → one_table (place_of m k) place ≡ false
table_less m k place lt barred = go (one_table (place_of m k) place) refl
  where
    go : (b : Bool) → one_table (place_of m k) place ≡ b → one_table (place_of m k) place ≡ false
    go true is = absurd (false≢true (flip barred ∙ any_at (λ p. one_table p place) (stored_of m).placed k (place_of m k) (entry_here m k lt) is))
    go false is = is

-- a run more
pub takes_next : (m : SlotManifest) (k : ℕ) (a b c : View) (s x : State) → k < m.manifest.count
    → Takes (Step (Installs (stored_of m)) (fresh_tables (stored_of m).placed) s) (fresh_tables (stored_of m).placed) (39 * k) a b → b.state ≡ Some x
    → ((t : Mote) → Stands s t → Installs (stored_of m) t → Stands x t)
    → Takes (Step (Installs (stored_of m)) (one_table (place_of m k)) x) (one_table (place_of m k)) 39 b c
    → Takes (Step (Installs (stored_of m)) (fresh_tables (stored_of m).placed) s) (fresh_tables (stored_of m).placed) (39 * (k + 1)) a c
takes_next m k a b c s x lt run told here next =
    takes_more (Step (Installs (stored_of m)) may s) may (39 * k + 39) (39 * (k + 1)) a c (omega arith)
    (takes_takes (Installs (stored_of m)) (Installs (stored_of m)) may (one_table (place_of m k)) (39 * k) 39 a b c s x run told next
    (λ place barred. table_less m k place lt barred) (λ u stands installs. (u, here u stands installs, installs)))
  where
    may : Place → Bool
    may = fresh_tables (stored_of m).placed

-- what is left of an entry's run
pub run_fresh : (m : SlotManifest) (k : ℕ) (s : State) → (place_of m k).fresh ≡ true → one_run (place_of m k) s ≡ with_run (place_of m k).slot s
run_fresh m k s fresh = ap (λ (b : Bool). cond b (with_run (place_of m k).slot s) s) fresh

pub run_held : (m : SlotManifest) (k : ℕ) (s : State) → (place_of m k).fresh ≡ false → one_run (place_of m k) s ≡ s
run_held m k s held = ap (λ (b : Bool). cond b (with_run (place_of m k).slot s) s) held
