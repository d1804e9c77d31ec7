-- A sound mote of layout 2: what holds of its flashes wherever power is cut, but in `format`.
use Rattle.std.specs.Prelude.{◌≡◌, ℕ, ◌<◌, true, false, List, None}
use Rattle.component_package.specs.link.Link.{IsLate, link_cause}
use Rattle.component_package.specs.link.Areas.{MergedSymbol, Tells, Lists}
use Rattle.component_package.specs.link.Pages.{IsTableOf, listed, IsPages}
use Rattle.component_package.specs.packages.Manifest.{Release, IsRelease}
use Rattle.component_package.specs.mote.Sides.{fmt, man, sym, rel, img, go_a, go_b}
use Rattle.kept_definitions.specs.Stored.{StoredRelease, Stores}
use Rattle.kept_definitions.specs.Kept.{Chosen, HoldPackages, kept_packages, going_packages, coming_set, HasComing, slots_for}
use Rattle.kept_definitions.specs.Sides.{Parts, chosen_side, other_side, is_pending, kept_set, going_set}

-- ---- the chosen set

-- the side stores a release that is installed here: its packages are all there, and these pages are their set's image, with 0xFF behind it
unfoldable pub IsInstalled : List (List ℕ) → List (List ℕ) → List ℕ → Type 0
IsInstalled tables prog side = (m : StoredRelease) × Stores side m × HoldPackages m.placed (kept_packages tables prog m) × IsPages (kept_set tables prog m) prog

-- the same of one that is being installed, and of the staged pages
unfoldable pub IsGoing : List (List ℕ) → List (List ℕ) → List (List ℕ) → List ℕ → Type 0
IsGoing tables inbox staged side =
    (m : StoredRelease) × Stores side m × HoldPackages m.placed (going_packages tables inbox staged m) × IsPages (going_set tables inbox staged m) staged

-- ---- the incoming set

-- what comes in over an installed release: `current` and `side` store n and m, n's set is in program flash, and m's is that with the inbox
pub record Comes (tables prog inbox : List (List ℕ)) (current side : List ℕ) : Type 0 where
  pub now : Chosen
  pub is_now : Stores current now.release
  pub set : kept_set tables prog now.release ≡ now.set
  pub next : StoredRelease
  pub is_next : Stores side next
  pub there : HasComing now inbox next

-- there is an incoming set
unfoldable pub HoldsSet : (tables prog inbox : List (List ℕ)) → (current side : List ℕ) → Type 0
HoldsSet tables prog inbox current side = Comes tables prog inbox current side

-- nothing refuses to link it
unfoldable pub HasNoCause : (tables prog inbox : List (List ℕ)) → (current side : List ℕ) → Type 0
HasNoCause tables prog inbox current side = (c : Comes tables prog inbox current side) × (link_cause (coming_set c.now inbox c.next) ≡ None)

-- nothing refuses it but an undefined symbol or a field out of range
unfoldable pub HasLateCause : (tables prog inbox : List (List ℕ)) → (current side : List ℕ) → Type 0
HasLateCause tables prog inbox current side = (c : Comes tables prog inbox current side) × IsLate (link_cause (coming_set c.now inbox c.next))

-- the area is its symbol table
unfoldable pub HasTable : (tables prog inbox : List (List ℕ)) → (current side area : List ℕ) → Type 0
HasTable tables prog inbox current side area =
    (c : Comes tables prog inbox current side) × (table : List MergedSymbol) × IsTableOf (coming_set c.now inbox c.next) table × Tells area table

-- the area is its relocation list
unfoldable pub HasList : (tables prog inbox : List (List ℕ)) → (current side area : List ℕ) → Type 0
HasList tables prog inbox current side area =
    (c : Comes tables prog inbox current side) × (table : List MergedSymbol) × IsTableOf (coming_set c.now inbox c.next) table
    × Lists area (listed (coming_set c.now inbox c.next) table)

-- the pages are its image, and 0xFF behind it
unfoldable pub HasImage : (tables prog inbox : List (List ℕ)) → (current side : List ℕ) → (pages : List (List ℕ)) → Type 0
HasImage tables prog inbox current side pages = (c : Comes tables prog inbox current side) × IsPages (coming_set c.now inbox c.next) pages

-- the side is a later release than the current one, with the slots that it gets over it
unfoldable pub IsNext : List ℕ → List ℕ → Type 0
IsNext current side = (m : StoredRelease) × (r : Release) × Stores current m × IsRelease r × (m.number < r.number) × Stores side (slots_for m r)

-- ---- soundness

-- the merged symbols of the incoming release are there
pub record IsMerged (p : Parts) : Type 0 where
  pub incoming : p.gates man ≡ true
  pub set : HoldsSet p.tables p.prog p.inbox (chosen_side p) (other_side p)
  pub cause : HasLateCause p.tables p.prog p.inbox (chosen_side p) (other_side p)
  pub table : HasTable p.tables p.prog p.inbox (chosen_side p) (other_side p) p.symbols

-- its relocations are listed
pub record IsListed (p : Parts) : Type 0 where
  pub merged : p.gates sym ≡ true
  pub cause : HasNoCause p.tables p.prog p.inbox (chosen_side p) (other_side p)
  pub list : HasList p.tables p.prog p.inbox (chosen_side p) (other_side p) p.relocs

-- its image is staged
pub record IsStaged (p : Parts) : Type 0 where
  pub listed : p.gates rel ≡ true
  pub image : HasImage p.tables p.prog p.inbox (chosen_side p) (other_side p) p.staged

-- where no commit stands: the chosen set is in program flash, and each gate vouches for its area
pub record IsAtRest (p : Parts) : Type 0 where
  pub installed : IsInstalled p.tables p.prog (chosen_side p)
  pub man_open : p.gates man ≡ true → IsNext (chosen_side p) (other_side p)
  pub sym_open : p.gates sym ≡ true → IsMerged p
  pub rel_open : p.gates rel ≡ true → IsListed p
  pub img_open : p.gates img ≡ true → IsStaged p

-- a sound mote: formatted, one installation at most, and a chosen set that nothing refuses, whose image is staged where a commit stands, and
-- else in program flash
pub record IsSound (p : Parts) : Type 0 where
  pub formatted : p.gates fmt ≡ true
  pub one_go : p.gates go_a ≡ true → p.gates go_b ≡ false
  pub going : is_pending p ≡ true → IsGoing p.tables p.inbox p.staged (chosen_side p)
  pub rest : is_pending p ≡ false → IsAtRest p
