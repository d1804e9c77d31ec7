-- What the words of soundness say where the releases are known, and what boots is the image.
use Rattle.std.specs.Prelude.{◌≡◌, ◌↔◌, ℕ, ◌<◌, true, false, List, None}
use Rattle.component_package.specs.link.Areas.{MergedSymbol, Tells, Lists}
use Rattle.component_package.specs.link.Pages.{IsTableOf, listed, IsPages}
use Rattle.component_package.specs.link.Link.{IsLate, link_cause}
use Rattle.component_package.specs.packages.Manifest.{Release, IsRelease}
use Rattle.kept_definitions.specs.Stored.{StoredRelease, Stores}
use Rattle.kept_definitions.specs.Kept.{Chosen, HoldPackages, kept_packages, going_packages, coming_set, HasComing, slots_for}
use Rattle.kept_definitions.specs.Sides.{Parts, is_pending, kept_set, going_set}
use Rattle.kept_definitions.specs.Sound.{IsInstalled, IsGoing, HoldsSet, HasNoCause, HasLateCause, HasTable, HasList, HasImage, IsNext, IsSound}
use Rattle.kept_definitions.specs.Headline.{Chooses}
use Rattle.kept_laws.specs.Invariant.{AreEntries}

-- ---- a side

-- Where a side stores the release m, each word says what it says of m.
pub record SideSays (side : List ℕ) (m : StoredRelease) : Type 0 where
  pub installed : (tables prog : List (List ℕ)) → IsInstalled tables prog side ↔ (HoldPackages m.placed (kept_packages tables prog m) × IsPages (kept_set tables prog m) prog)
  pub going : (tables inbox staged : List (List ℕ))
      → IsGoing tables inbox staged side ↔ (HoldPackages m.placed (going_packages tables inbox staged m) × IsPages (going_set tables inbox staged m) staged)
  pub next : (other : List ℕ) → IsNext side other ↔ ((r : Release) × IsRelease r × (m.number < r.number) × Stores other (slots_for m r))

-- ---- what comes in

-- one side stores the release of `now`, which has this set where it is installed, and the other one stores `next`
pub record AreKnown (tables prog : List (List ℕ)) (current side : List ℕ) (now : Chosen) (next : StoredRelease) : Type 0 where
  pub is_now : Stores current now.release
  pub set : kept_set tables prog now.release ≡ now.set
  pub is_next : Stores side next

-- then each word says what it says of the set that comes in
pub record WordsSay (tables prog inbox : List (List ℕ)) (current side : List ℕ) (now : Chosen) (next : StoredRelease) : Type 0 where
  pub set : HoldsSet tables prog inbox current side ↔ HasComing now inbox next
  pub no_cause : HasNoCause tables prog inbox current side ↔ (HasComing now inbox next × (link_cause (coming_set now inbox next) ≡ None))
  pub late_cause : HasLateCause tables prog inbox current side ↔ (HasComing now inbox next × IsLate (link_cause (coming_set now inbox next)))
  pub table : (area : List ℕ) → HasTable tables prog inbox current side area
      ↔ (HasComing now inbox next × ((t : List MergedSymbol) × IsTableOf (coming_set now inbox next) t × Tells area t))
  pub list : (area : List ℕ) → HasList tables prog inbox current side area
      ↔ (HasComing now inbox next × ((t : List MergedSymbol) × IsTableOf (coming_set now inbox next) t × Lists area (listed (coming_set now inbox next) t)))
  pub image : (pages : List (List ℕ)) → HasImage tables prog inbox current side pages ↔ (HasComing now inbox next × IsPages (coming_set now inbox next) pages)

-- Where the releases are known, each word says what it says of them.
pub record WordsSayWhatTheyMean : Type 0 where
  pub side : (side : List ℕ) (m : StoredRelease) → Stores side m → SideSays side m
  pub coming : (tables prog inbox : List (List ℕ)) (current side : List ℕ) (now : Chosen) (next : StoredRelease) → AreKnown tables prog current side now next
      → WordsSay tables prog inbox current side now next

-- ---- what is chosen

-- The chosen set's image is in program flash where no commit stands, and staged where one does; its packages are its release's, and nothing refuses it.
pub record ImageIsTheChosens : Type 0 where
  pub boots : (p : Parts) (c : Chosen) → IsSound p → is_pending p ≡ false → Chooses p c → IsPages c.set p.prog
  pub stands : (p : Parts) (c : Chosen) → IsSound p → is_pending p ≡ true → Chooses p c → IsPages c.set p.staged
  pub whole : (p : Parts) (c : Chosen) → IsSound p → Chooses p c → AreEntries c × (link_cause c.set ≡ None)
