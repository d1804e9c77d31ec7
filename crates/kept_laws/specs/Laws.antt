-- Laws of the sets that a mote of layout 2 holds: they are taken back from runs and an image.
use Rattle.std.specs.Prelude.{◌≡◌, ℕ, true, false, List, [], ◌∷◌, ◌++◌, length, map, slice_index_or, Some}
use Rattle.std.specs.List.{concat, AllByRecursion}
use Rattle.sha2.specs.Sha256.{sha256}
use Rattle.component_package.specs.declared.manifest.Entry.{Entry}
use Rattle.component_package.specs.packages.Component.{Component, spelling}
use Rattle.component_package.specs.packages.Grammar.{IsComponent}
use Rattle.component_package.specs.link.Pages.{IsPages}
use Rattle.kept_definitions.specs.Runs.{run_of, taken_back}
use Rattle.kept_definitions.specs.Stored.{Placed, StoredRelease}
use Rattle.kept_definitions.specs.Kept.{Chosen, HoldPackages, kept_packages, going_packages, going_run, coming_set, HasComing, held_slot}
use Rattle.kept_definitions.specs.Sides.{kept_set, going_set}

-- The runs of a set's components, and its pages, give its packages back.
abbrev pub TakenBack : Type 0
TakenBack = (set : List Component) (pages : List (List ℕ)) → AllByRecursion IsComponent set → IsPages set pages
    → taken_back (concat pages) (map run_of set) ≡ map spelling set

-- ---- the installed set

-- the component's package is the entry's
pub record IsPackageOf (e : Entry) (c : Component) : Type 0 where
  pub component : IsComponent c
  pub size : length (spelling c) ≡ e.length
  pub digest : sha256 (spelling c) ≡ e.digest
  pub number : c.component ≡ e.component
  pub version : c.version ≡ e.version

-- a slot begins with these bytes
pub record Begins (slot front : List ℕ) : Type 0 where
  pub rest : List ℕ
  pub is : slot ≡ front ++ rest

-- the component's package is the entry's, and the entry's table slot begins with its run
pub record IsInTable (tables : List (List ℕ)) (p : Placed) (c : Component) : Type 0 where
  pub entry : IsPackageOf p.entry c
  pub run : Begins (slice_index_or tables p.slot []) (run_of c)

-- so for each entry and its component, in order
abbrev pub AreAll : (Placed → Component → Type 0) → List Placed → List Component → Type 0
AreAll P [] [] = Unit {0}
AreAll P [] (c ∷ cs) = ⊥
AreAll P (p ∷ ps) [] = ⊥
AreAll P (p ∷ ps) (c ∷ cs) = P p c × AreAll P ps cs

-- The law of taking back: a set whose packages are the release's, and whose runs begin the table slots that it names, is the one that its
-- own pages give back; and wherever packages are given back, their runs begin the slots.
pub record KeptIsTheSet : Type 0 where
  pub set : (tables pages : List (List ℕ)) (m : StoredRelease) (set : List Component) → IsPages set pages → AreAll (IsInTable tables) m.placed set
      → kept_set tables pages m ≡ set
  pub packages : (tables pages : List (List ℕ)) (m : StoredRelease) (set : List Component) → IsPages set pages → AreAll (IsInTable tables) m.placed set
      → HoldPackages m.placed (kept_packages tables pages m)
  pub found : (tables pages : List (List ℕ)) (m : StoredRelease) → HoldPackages m.placed (kept_packages tables pages m)
      → AreAll (IsInTable tables) m.placed (kept_set tables pages m)

-- ---- the set being installed

-- the package is the entry's; a fresh entry's inbox slot begins with it, and another one's table slot with its run
pub record IsOnItsWay (tables inbox : List (List ℕ)) (p : Placed) (c : Component) : Type 0 where
  pub entry : IsPackageOf p.entry c
  pub fresh : p.fresh ≡ true → Begins (slice_index_or inbox p.slot []) (spelling c)
  pub held : p.fresh ≡ false → Begins (slice_index_or tables p.slot []) (run_of c)

-- the component's package is the entry's, and its run is the one that is found for the entry
pub record HasGoingRun (tables inbox : List (List ℕ)) (p : Placed) (c : Component) : Type 0 where
  pub entry : IsPackageOf p.entry c
  pub run : going_run tables inbox p ≡ run_of c

-- A set on its way is the one that its own pages give back; and wherever packages are given back, the runs that are found are theirs.
pub record GoingIsTheSet : Type 0 where
  pub set : (tables inbox pages : List (List ℕ)) (m : StoredRelease) (set : List Component) → IsPages set pages → AreAll (IsOnItsWay tables inbox) m.placed set
      → going_set tables inbox pages m ≡ set
  pub packages : (tables inbox pages : List (List ℕ)) (m : StoredRelease) (set : List Component) → IsPages set pages → AreAll (IsOnItsWay tables inbox) m.placed set
      → HoldPackages m.placed (going_packages tables inbox pages m)
  pub found : (tables inbox pages : List (List ℕ)) (m : StoredRelease) → HoldPackages m.placed (going_packages tables inbox pages m)
      → AreAll (HasGoingRun tables inbox) m.placed (going_set tables inbox pages m)

-- ---- the incoming set

-- an entry that isn't fresh has the slot that the current release has for it
abbrev pub IsOver : StoredRelease → Placed → Type 0
IsOver current p = p.fresh ≡ false → held_slot current p.entry ≡ Some p.slot

-- the current release and its set, which is installed
pub record IsNow (tables prog : List (List ℕ)) (now : Chosen) : Type 0 where
  pub packages : HoldPackages now.release.placed (kept_packages tables prog now.release)
  pub set : kept_set tables prog now.release ≡ now.set

-- An incoming set that is there, over an installed one, is on its way: so a commit makes it the chosen one, once its pages are staged.
abbrev pub ComingIsOnItsWay : Type 0
ComingIsOnItsWay = (tables prog inbox : List (List ℕ)) (now : Chosen) (m : StoredRelease) → IsNow tables prog now → HasComing now inbox m
    → AllByRecursion (IsOver now.release) m.placed → AreAll (IsOnItsWay tables inbox) m.placed (coming_set now inbox m)

-- ---- the end of an installation

-- a fresh entry's table slot begins with the run of the package in its inbox slot
abbrev pub KeepsItsRun : (tables inbox : List (List ℕ)) → Placed → Type 0
KeepsItsRun tables inbox p = p.fresh ≡ true → Begins (slice_index_or tables p.slot []) (going_run tables inbox p)

-- Once the runs of fresh entries are in their table slots, what goes is kept.
abbrev pub GoingIsKept : Type 0
GoingIsKept = (tables inbox pages : List (List ℕ)) (m : StoredRelease) → HoldPackages m.placed (going_packages tables inbox pages m)
    → AllByRecursion (KeepsItsRun tables inbox) m.placed → kept_packages tables pages m ≡ going_packages tables inbox pages m
