-- The installed set, the one being installed and the incoming one.
use Rattle.std.proofs.Common.{◌≡◌, inl, inr, ℕ, ◌+◌, ◌≤◌, Bool, true, false, cond, eqb, Some, List, [], ◌∷◌, ◌++◌, length, drop, get_or, map, refl, sym, ap, ap₂, subst, ◌∙◌, take-append-drop}
use Rattle.std.specs.Prelude.{unwrap_or, ◌&&◌, find}
use Rattle.std.specs.List.{concat, zip, enumerate_from, AllByRecursion}
use Rattle.std.specs.Option.{option_map}
use Rattle.std.proofs.lemmas.Bool.{cases_Bool, and_parts, eqb-true}
use Rattle.sha2.specs.Sha256.{sha256}
use Rattle.component_package.specs.declared.manifest.Entry.{Entry}
use Rattle.component_package.specs.packages.Component.{Component, spelling}
use Rattle.component_package.specs.packages.Reading.{header_of, component_of}
use Rattle.component_package.specs.packages.Grammar.{IsComponent}
use Rattle.component_package.specs.link.Layout.{Room}
use Rattle.component_package.specs.link.Pages.{IsPages}
use Rattle.component_package.specs.mote.Store.{is_same, is_same_entry}
use Rattle.kept_definitions.specs.Runs.{run_of, run_length, run_in_table, run_in_package, room_of_run, package_from, taken_back}
use Rattle.kept_definitions.specs.Stored.{Placed, StoredRelease}
use Rattle.kept_definitions.specs.Kept.{Chosen, HoldsPackage, HoldPackages, table_run, going_run, kept_packages, going_packages, components_in, package_in, held_component, coming_component, coming_set, IsComing}
use Rattle.kept_definitions.specs.Sides.{going_set, kept_set}
use Rattle.component_package.proofs.ReadAgain.{spelling_said}
use Rattle.kept_laws.specs.Laws.{IsPackageOf, Begins, IsInTable, AreAll, KeptIsTheSet, IsOnItsWay, HasGoingRun, GoingIsTheSet, IsOver, IsNow, ComingIsOnItsWay, KeepsItsRun, GoingIsKept}
use Rattle.kept_laws.proofs.Reading.{run_there, run_packed}
use Rattle.kept_laws.proofs.Runs.{run_short, packed_short, run_of_package}
use Rattle.kept_laws.proofs.Whole.{pages_back}

-- ---- packages of a set

-- a package that is the entry's holds it
holds_package : (e : Entry) (c : Component) → IsPackageOf e c → HoldsPackage e (spelling c)
holds_package e c is = record {
  size = is.size;
  digest = is.digest;
  component = c;
  spelled = record { component = is.component; bytes = refl };
  number = is.number;
  version = is.version;
}

-- and back
pub is_package : (e : Entry) (b : List ℕ) (h : HoldsPackage e b) → IsPackageOf e h.component
is_package e b h =
    let at = h.spelled.bytes in
    record {
      component = h.spelled.component;
      size = ap length (sym at) ∙ h.size;
      digest = ap sha256 (sym at) ∙ h.digest;
      number = h.number;
      version = h.version;
    }

-- what the bytes say is that component
pub said : (e : Entry) (b : List ℕ) (h : HoldsPackage e b) → component_of b ≡ h.component
said e b h = ap component_of h.spelled.bytes ∙ spelling_said h.component h.spelled.component

-- all packages of a set hold
hold_all : (P : Placed → Component → Type 0) → ((p : Placed) (c : Component) → P p c → IsPackageOf p.entry c) → (ps : List Placed) (cs : List Component)
    → AreAll P ps cs → HoldPackages ps (map spelling cs)
hold_all P is [] [] all = tt
hold_all P is [] (c ∷ cs) all = absurd all
hold_all P is (p ∷ ps) [] all = absurd all
hold_all P is (p ∷ ps) (c ∷ cs) all = (holds_package p.entry c (is p c all.0), hold_all P is ps cs all.1)

-- and its components are the grammar's
components_all : (P : Placed → Component → Type 0) → ((p : Placed) (c : Component) → P p c → IsPackageOf p.entry c) → (ps : List Placed) (cs : List Component)
    → AreAll P ps cs → AllByRecursion IsComponent cs
components_all P is [] [] all = tt
components_all P is [] (c ∷ cs) all = absurd all
components_all P is (p ∷ ps) [] all = absurd all
components_all P is (p ∷ ps) (c ∷ cs) all = ((is p c all.0).component, components_all P is ps cs all.1)

-- packages say their components again
said_again : (cs : List Component) → AllByRecursion IsComponent cs → components_in (map spelling cs) ≡ cs
said_again [] all = refl
said_again (c ∷ cs) all = ap₂ (λ (x : Component) (xs : List Component). x ∷ xs) (spelling_said c all.0) (said_again cs all.1)

-- runs of entries that are each the component's run
runs_all : (P : Placed → Component → Type 0) (run : Placed → List ℕ) → ((p : Placed) (c : Component) → P p c → run p ≡ run_of c) → (ps : List Placed) (cs : List Component)
    → AreAll P ps cs → map run ps ≡ map run_of cs
runs_all P run is [] [] all = refl
runs_all P run is [] (c ∷ cs) all = absurd all
runs_all P run is (p ∷ ps) [] all = absurd all
runs_all P run is (p ∷ ps) (c ∷ cs) all = ap₂ (λ (x : List ℕ) (xs : List (List ℕ)). x ∷ xs) (is p c all.0) (runs_all P run is ps cs all.1)

-- the packages of a set, taken back from its pages
packages_are : (P : Placed → Component → Type 0) (run : Placed → List ℕ) → ((p : Placed) (c : Component) → P p c → run p ≡ run_of c)
    → ((p : Placed) (c : Component) → P p c → IsPackageOf p.entry c) → (pages : List (List ℕ)) (ps : List Placed) (cs : List Component) → IsPages cs pages → AreAll P ps cs
    → taken_back (concat pages) (map run ps) ≡ map spelling cs
packages_are P run is own pages ps cs image all =
    ap (taken_back (concat pages)) (runs_all P run is ps cs all) ∙ pages_back cs pages (components_all P own ps cs all) image

-- ---- the installed set

-- an entry's table slot has the run that it begins with
in_table : (tables : List (List ℕ)) (p : Placed) (c : Component) → IsInTable tables p c → table_run tables p ≡ run_of c
in_table tables p c is = ap run_in_table is.run.is ∙ run_there c is.run.rest

-- the packages that are kept
kept_are : (tables pages : List (List ℕ)) (m : StoredRelease) (set : List Component) → IsPages set pages → AreAll (IsInTable tables) m.placed set
    → kept_packages tables pages m ≡ map spelling set
unfolding kept_packages
kept_are tables pages m set image all = packages_are (IsInTable tables) (table_run tables) (in_table tables) (λ p c is. is.entry) pages m.placed set image all

-- where a package is taken back from a table slot's run, the slot begins with its component's
found_one : (tables : List (List ℕ)) (image : List ℕ) (rooms : List Room) (k : ℕ) (p : Placed) → HoldsPackage p.entry (package_from image rooms k (table_run tables p))
    → IsInTable tables p (component_of (package_from image rooms k (table_run tables p)))
found_one tables image rooms k p h =
    let slot = get_or tables p.slot [] in
    let same = said p.entry (package_from image rooms k (table_run tables p)) h in
    let run = run_of_package image rooms k (table_run tables p) h.component (run_short slot) h.spelled.bytes in
    subst (IsInTable tables p) (sym same) (record {
      entry = is_package p.entry (package_from image rooms k (table_run tables p)) h;
      run = record {
        rest = drop (run_length (header_of slot)) slot;
        is = sym (take-append-drop (run_length (header_of slot)) slot) ∙ ap (λ (x : List ℕ). x ++ drop (run_length (header_of slot)) slot) run;
      };
    })

-- so for all from n on
found_all : (tables : List (List ℕ)) (image : List ℕ) (rooms : List Room) (n : ℕ) (ps : List Placed)
    → HoldPackages ps (map (λ x. package_from image rooms x.0 x.1) (enumerate_from n (map (table_run tables) ps)))
    → AreAll (IsInTable tables) ps (components_in (map (λ x. package_from image rooms x.0 x.1) (enumerate_from n (map (table_run tables) ps))))
found_all tables image rooms n [] holds = tt
found_all tables image rooms n (p ∷ ps) holds = (found_one tables image rooms n p holds.0, found_all tables image rooms (n + 1) ps holds.1)

kept_found : (tables pages : List (List ℕ)) (m : StoredRelease) → HoldPackages m.placed (kept_packages tables pages m) → AreAll (IsInTable tables) m.placed (kept_set tables pages m)
unfolding kept_packages
kept_found tables pages m holds = found_all tables (concat pages) (map room_of_run (map (table_run tables) m.placed)) 0 m.placed holds

-- the law
pub kept_is_the_set : KeptIsTheSet
kept_is_the_set = record {
  set = λ tables pages m set image all. ap components_in (kept_are tables pages m set image all) ∙ said_again set (components_all (IsInTable tables) (λ p c is. is.entry) m.placed set all);
  packages = λ tables pages m set image all. subst (HoldPackages m.placed) (sym (kept_are tables pages m set image all)) (hold_all (IsInTable tables) (λ p c is. is.entry) m.placed set all);
  found = kept_found;
}

-- ---- the set being installed

-- the run of an entry on its way
on_its_way : (tables inbox : List (List ℕ)) (p : Placed) (c : Component) → IsOnItsWay tables inbox p c → going_run tables inbox p ≡ run_of c
on_its_way tables inbox p c is =
    elim (cases_Bool p.fresh) [
      | inl e ↦ let b = is.fresh e in rw e (ap run_in_package b.is ∙ run_packed c b.rest)
      | inr e ↦ let b = is.held e in rw e (ap run_in_table b.is ∙ run_there c b.rest)
    ]

going_are : (tables inbox pages : List (List ℕ)) (m : StoredRelease) (set : List Component) → IsPages set pages → AreAll (IsOnItsWay tables inbox) m.placed set
    → going_packages tables inbox pages m ≡ map spelling set
unfolding going_packages
going_are tables inbox pages m set image all = packages_are (IsOnItsWay tables inbox) (going_run tables inbox) (on_its_way tables inbox) (λ p c is. is.entry) pages m.placed set image all

-- the run of an entry whose package is taken back
going_found : (tables inbox : List (List ℕ)) (image : List ℕ) (rooms : List Room) (k : ℕ) (p : Placed) (h : HoldsPackage p.entry (package_from image rooms k (going_run tables inbox p)))
    → going_run tables inbox p ≡ run_of h.component
going_found tables inbox image rooms k p h = run_of_package image rooms k (going_run tables inbox p) h.component (short p.fresh) h.spelled.bytes
  where
    short : (b : Bool) → length (cond b (run_in_package (get_or inbox p.slot [])) (table_run tables p)) ≤ run_length
        (header_of (cond b (run_in_package (get_or inbox p.slot [])) (table_run tables p)))
    short true = packed_short (get_or inbox p.slot [])
    short false = run_short (get_or tables p.slot [])

-- so it is for each
going_one : (tables inbox : List (List ℕ)) (image : List ℕ) (rooms : List Room) (k : ℕ) (p : Placed) → HoldsPackage p.entry (package_from image rooms k (going_run tables inbox p))
    → HasGoingRun tables inbox p (component_of (package_from image rooms k (going_run tables inbox p)))
going_one tables inbox image rooms k p h =
    subst (HasGoingRun tables inbox p) (sym (said p.entry (package_from image rooms k (going_run tables inbox p)) h))
    (record { entry = is_package p.entry (package_from image rooms k (going_run tables inbox p)) h; run = going_found tables inbox image rooms k p h })

going_all : (tables inbox : List (List ℕ)) (image : List ℕ) (rooms : List Room) (n : ℕ) (ps : List Placed)
    → HoldPackages ps (map (λ x. package_from image rooms x.0 x.1) (enumerate_from n (map (going_run tables inbox) ps)))
    → AreAll (HasGoingRun tables inbox) ps (components_in (map (λ x. package_from image rooms x.0 x.1) (enumerate_from n (map (going_run tables inbox) ps))))
going_all tables inbox image rooms n [] holds = tt
going_all tables inbox image rooms n (p ∷ ps) holds = (going_one tables inbox image rooms n p holds.0, going_all tables inbox image rooms (n + 1) ps holds.1)

runs_found : (tables inbox pages : List (List ℕ)) (m : StoredRelease) → HoldPackages m.placed (going_packages tables inbox pages m)
    → AreAll (HasGoingRun tables inbox) m.placed (going_set tables inbox pages m)
unfolding going_packages
runs_found tables inbox pages m holds = going_all tables inbox (concat pages) (map room_of_run (map (going_run tables inbox) m.placed)) 0 m.placed holds

pub going_is_the_set : GoingIsTheSet
going_is_the_set = record {
  set = λ tables inbox pages m set image all. ap components_in (going_are tables inbox pages m set image all)
      ∙ said_again set (components_all (IsOnItsWay tables inbox) (λ p c is. is.entry) m.placed set all);
  packages = λ tables inbox pages m set image all. subst (HoldPackages m.placed)
      (sym (going_are tables inbox pages m set image all)) (hold_all (IsOnItsWay tables inbox) (λ p c is. is.entry) m.placed set all);
  found = runs_found;
}

-- ---- the incoming set

-- equal in all four fields
same_lists_are : (xs ys : List ℕ) → is_same xs ys ≡ true → xs ≡ ys
same_lists_are [] [] same = refl
same_lists_are [] (y ∷ ys) same = absurd cc
same_lists_are (x ∷ xs) [] same = absurd cc
same_lists_are (x ∷ xs) (y ∷ ys) same =
    let parts = and_parts (eqb x y) (is_same xs ys) same in
    ap₂ (λ (z : ℕ) (zs : List ℕ). z ∷ zs) (eqb-true x y parts.0) (same_lists_are xs ys parts.1)

-- the package of one is the other's
pub package_same : (e f : Entry) (c : Component) → is_same_entry e f ≡ true → IsPackageOf e c → IsPackageOf f c
package_same e f c same is =
    let a = and_parts (eqb e.component f.component && eqb e.version f.version && eqb e.length f.length) (is_same e.digest f.digest) same in
    let b = and_parts (eqb e.component f.component && eqb e.version f.version) (eqb e.length f.length) a.0 in
    let c = and_parts (eqb e.component f.component) (eqb e.version f.version) b.0 in
    record {
      component = is.component;
      size = is.size ∙ eqb-true e.length f.length b.1;
      digest = is.digest ∙ same_lists_are e.digest f.digest a.1;
      number = is.number ∙ eqb-true e.component f.component c.0;
      version = is.version ∙ eqb-true e.version f.version c.1;
    }

-- an entry that the current release has, in its slot, has that slot's component
record IsHeld (tables : List (List ℕ)) (slot : ℕ) (e : Entry) (c : Component) : Type 0 where
  pub entry : IsPackageOf e c
  pub run : Begins (get_or tables slot []) (run_of c)

-- found at the same place in both lists
held_there : (tables : List (List ℕ)) (e : Entry) (s : ℕ) (d : Component) (ps : List Placed) (cs : List Component) → AreAll (IsInTable tables) ps cs
    → option_map (λ (p : Placed). p.slot) (find (λ p. is_same_entry p.entry e) ps) ≡ Some s
    → IsHeld tables s e (unwrap_or (option_map (λ (x : Placed × Component). x.1) (find (λ x. is_same_entry x.0.entry e) (zip ps cs))) d)
held_there tables e s d [] [] all here = absurd cc
held_there tables e s d [] (c ∷ cs) all here = absurd all
held_there tables e s d (p ∷ ps) [] all here = absurd all
held_there tables e s d (p ∷ ps) (c ∷ cs) all here =
    elim (cases_Bool (is_same_entry p.entry e)) [
      | inl same ↦
          let at : Some p.slot ≡ Some s = rw same at here in
          let slot : p.slot ≡ s = cc in
          rw same (record { entry = package_same p.entry e c same all.0.entry; run = subst (λ (k : ℕ). Begins (get_or tables k []) (run_of c)) slot all.0.run })
      | inr other ↦ rw other (held_there tables e s d ps cs all.1 (rw other at here))
    ]

-- a component that comes is on its way
one_comes : (tables prog inbox : List (List ℕ)) (now : Chosen) → IsNow tables prog now → (p : Placed) → IsComing now inbox p → IsOver now.release p
    → IsOnItsWay tables inbox p (coming_component now inbox p)
one_comes tables prog inbox now is p comes over =
    let came = component_of (package_in inbox p) in
    let held = unwrap_or (held_component now p.entry) (component_of []) in
    elim (cases_Bool p.fresh) [
      | inl e ↦
          let h = comes.came e in
          let same : coming_component now inbox p ≡ h.component = ap (λ (b : Bool). cond b came held) e ∙ said p.entry (package_in inbox p) h in
          let slot = get_or inbox p.slot [] in
          subst (IsOnItsWay tables inbox p) (sym same) (record {
            entry = is_package p.entry (package_in inbox p) h;
            fresh = λ is_fresh. record {
              rest = drop p.entry.length slot;
              is = sym (take-append-drop p.entry.length slot) ∙ ap (λ (x : List ℕ). x ++ drop p.entry.length slot) h.spelled.bytes;
            };
            held = λ isnt. absurd cc;
          })
      | inr e ↦
          let all = subst (AreAll (IsInTable tables) now.release.placed) is.set (kept_found tables prog now.release is.packages) in
          let h = held_there tables p.entry p.slot (component_of []) now.release.placed now.set all (over e) in
          let same : coming_component now inbox p ≡ held = ap (λ (b : Bool). cond b came held) e in
          subst (IsOnItsWay tables inbox p) (sym same) (record { entry = h.entry; fresh = λ is_fresh. absurd cc; held = λ isnt. h.run })
    ]

-- so are all
all_come : (tables prog inbox : List (List ℕ)) (now : Chosen) → IsNow tables prog now → (ps : List Placed) → AllByRecursion (IsComing now inbox) ps → AllByRecursion (IsOver now.release) ps
    → AreAll (IsOnItsWay tables inbox) ps (map (coming_component now inbox) ps)
all_come tables prog inbox now is [] comes over = tt
all_come tables prog inbox now is (p ∷ ps) comes over = (one_comes tables prog inbox now is p comes.0 over.0, all_come tables prog inbox now is ps comes.1 over.1)

pub coming_is_on_its_way : ComingIsOnItsWay
unfolding coming_set
coming_is_on_its_way tables prog inbox now m is comes over = all_come tables prog inbox now is m.placed comes over

-- ---- the end of an installation

-- the run that a table slot begins with, where it begins with what an entry's package has
kept_run : (tables inbox : List (List ℕ)) (p : Placed) (c : Component) → going_run tables inbox p ≡ run_of c → KeepsItsRun tables inbox p → table_run tables p ≡ going_run tables inbox p
kept_run tables inbox p c run keeps =
    elim (cases_Bool p.fresh) [
      | inl e ↦ let b = keeps e in ap run_in_table (b.is ∙ ap (λ (x : List ℕ). x ++ b.rest) run) ∙ run_there c b.rest ∙ sym run
      | inr e ↦ sym (ap (λ (f : Bool). cond f (run_in_package (get_or inbox p.slot [])) (table_run tables p)) e)
    ]

-- so the runs are the same
runs_kept : (tables inbox : List (List ℕ)) (image : List ℕ) (rooms : List Room) (n : ℕ) (ps : List Placed)
    → HoldPackages ps (map (λ x. package_from image rooms x.0 x.1) (enumerate_from n (map (going_run tables inbox) ps))) → AllByRecursion (KeepsItsRun tables inbox) ps
    → map (table_run tables) ps ≡ map (going_run tables inbox) ps
runs_kept tables inbox image rooms n [] holds keeps = refl
runs_kept tables inbox image rooms n (p ∷ ps) holds keeps =
    ap₂ (λ (x : List ℕ) (xs : List (List ℕ)). x ∷ xs) (kept_run tables inbox p holds.0.component (going_found tables inbox image rooms n p holds.0) keeps.0)
    (runs_kept tables inbox image rooms (n + 1) ps holds.1 keeps.1)

pub going_is_kept : GoingIsKept
unfolding kept_packages going_packages
going_is_kept tables inbox pages m holds keeps =
    ap (taken_back (concat pages)) (runs_kept tables inbox (concat pages) (map room_of_run (map (going_run tables inbox) m.placed)) 0 m.placed holds keeps)
