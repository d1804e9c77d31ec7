-- What the words of soundness say of a side whose release is known, and what boots is the image.
use Rattle.std.specs.Prelude.{◌≡◌, ◌↔◌, ℕ, ◌<◌, true, false, List, None}
use Rattle.component_package.specs.link.Areas.{MergedSymbol, Tells, Lists}
use Rattle.component_package.specs.link.Pages.{IsTableOf, listed, IsPages}
use Rattle.component_package.specs.link.Link.{link_cause}
use Rattle.component_package.specs.packages.Manifest.{Release, StoredRelease, IsRelease, Stores}
use Rattle.component_package.specs.mote.Store.{HasSet, components_of, slots_for}
use Rattle.component_package.specs.mote.Sides.{Parts, is_pending}
use Rattle.component_package.specs.mote.Sound.{HoldsSet, HasNoCause, HasLateCause, HasTable, HasList, HasImage, IsNext, IsSound}
use Rattle.component_package.specs.link.Link.{IsLate}
use Rattle.component_package.specs.mote.Machine.{Chosen}
use Rattle.component_package.specs.mote.Headline.{Chooses}

-- Where a side stores the release m, each word says what it says of m.
pub record WordsSay (slots : List (List ℕ)) (side : List ℕ) (m : StoredRelease) : Type 0 where
  pub set : HoldsSet slots side ↔ HasSet slots m
  pub no_cause : HasNoCause slots side ↔ (HasSet slots m × (link_cause (components_of slots m) ≡ None))
  pub late_cause : HasLateCause slots side ↔ (HasSet slots m × IsLate (link_cause (components_of slots m)))
  pub table : (area : List ℕ) → HasTable slots side area ↔ ((t : List MergedSymbol) × IsTableOf (components_of slots m) t × Tells area t)
  pub list : (area : List ℕ) → HasList slots side area
      ↔ ((t : List MergedSymbol) × IsTableOf (components_of slots m) t × Lists area (listed (components_of slots m) t))
  pub image : (pages : List (List ℕ)) → HasImage slots side pages ↔ IsPages (components_of slots m) pages
  pub next : (other : List ℕ) → IsNext side other ↔ ((r : Release) × IsRelease r × (m.number < r.number) × Stores other (slots_for m r))

abbrev pub WordsSayWhatTheyMean : Type 0
WordsSayWhatTheyMean = (slots : List (List ℕ)) (side : List ℕ) (m : StoredRelease) → Stores side m → WordsSay slots side m

-- The chosen set's image is in program flash where no commit stands, and staged where one does.
pub record ImageIsTheChosens : Type 0 where
  pub boots : (p : Parts) (c : Chosen) → IsSound p → is_pending p ≡ false → Chooses p c → IsPages c.set p.prog
  pub stands : (p : Parts) (c : Chosen) → IsSound p → is_pending p ≡ true → Chooses p c → IsPages c.set p.staged
