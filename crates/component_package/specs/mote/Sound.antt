-- A sound mote: what holds of its flashes wherever power is cut, but in `format`.
use Rattle.std.specs.Prelude.{◌≡◌, ℕ, ◌<◌, true, false, List, None}
use Rattle.component_package.specs.link.Link.{IsLate, link_cause}
use Rattle.component_package.specs.link.Areas.{MergedSymbol, Tells, Lists}
use Rattle.component_package.specs.link.Pages.{IsTableOf, listed, IsPages}
use Rattle.component_package.specs.packages.Manifest.{Release, StoredRelease, IsRelease, Stores}
use Rattle.component_package.specs.mote.Store.{HasSet, components_of, slots_for}
use Rattle.component_package.specs.mote.Sides.{Parts, fmt, man, sym, rel, img, go_a, go_b, chosen_side, other_side, is_pending}

-- ---- what a side's release is, by the bytes of the side and the slots

-- the side stores a release whose set the slots hold
unfoldable pub HoldsSet : List (List ℕ) → List ℕ → Type 0
HoldsSet slots side = (m : StoredRelease) × Stores side m × HasSet slots m

-- nothing refuses to link its set
unfoldable pub HasNoCause : List (List ℕ) → List ℕ → Type 0
HasNoCause slots side = (m : StoredRelease) × Stores side m × HasSet slots m × (link_cause (components_of slots m) ≡ None)

-- nothing refuses its set but an undefined symbol or a field out of range
unfoldable pub HasLateCause : List (List ℕ) → List ℕ → Type 0
HasLateCause slots side = (m : StoredRelease) × Stores side m × HasSet slots m × IsLate (link_cause (components_of slots m))

-- the area is its set's symbol table
unfoldable pub HasTable : List (List ℕ) → List ℕ → List ℕ → Type 0
HasTable slots side area = (m : StoredRelease) × (table : List MergedSymbol) × Stores side m × IsTableOf (components_of slots m) table × Tells area table

-- the area is its set's relocation list
unfoldable pub HasList : List (List ℕ) → List ℕ → List ℕ → Type 0
HasList slots side area =
    (m : StoredRelease) × (table : List MergedSymbol) × Stores side m × IsTableOf (components_of slots m) table × Lists area (listed (components_of slots m) table)

-- the pages are its set's image, and 0xFF behind it
unfoldable pub HasImage : List (List ℕ) → List ℕ → List (List ℕ) → Type 0
HasImage slots side pages = (m : StoredRelease) × Stores side m × IsPages (components_of slots m) pages

-- the side is a later release than the current one, with the slots that it gets over it
unfoldable pub IsNext : List ℕ → List ℕ → Type 0
IsNext current side = (m : StoredRelease) × (r : Release) × Stores current m × IsRelease r × (m.number < r.number) × Stores side (slots_for m r)

-- ---- soundness

-- the merged symbols of the incoming release are there
pub record IsMerged (p : Parts) : Type 0 where
  pub incoming : p.gates man ≡ true
  pub set : HoldsSet p.slots (other_side p)
  pub cause : HasLateCause p.slots (other_side p)
  pub table : HasTable p.slots (other_side p) p.symbols

-- its relocations are listed
pub record IsListed (p : Parts) : Type 0 where
  pub merged : p.gates sym ≡ true
  pub cause : HasNoCause p.slots (other_side p)
  pub list : HasList p.slots (other_side p) p.relocs

-- its image is staged
pub record IsStaged (p : Parts) : Type 0 where
  pub listed : p.gates rel ≡ true
  pub image : HasImage p.slots (other_side p) p.staged

-- where no commit stands: program flash is the chosen set's image, and each gate vouches for its area
pub record IsAtRest (p : Parts) : Type 0 where
  pub prog : HasImage p.slots (chosen_side p) p.prog
  pub man_open : p.gates man ≡ true → IsNext (chosen_side p) (other_side p)
  pub sym_open : p.gates sym ≡ true → IsMerged p
  pub rel_open : p.gates rel ≡ true → IsListed p
  pub img_open : p.gates img ≡ true → IsStaged p

-- a sound mote: formatted, one installation at most, a chosen set that nothing refuses; its image is staged where a commit stands, and
-- else in program flash
pub record IsSound (p : Parts) : Type 0 where
  pub formatted : p.gates fmt ≡ true
  pub one_go : p.gates go_a ≡ true → p.gates go_b ≡ false
  pub chosen : HasNoCause p.slots (chosen_side p)
  pub pending : is_pending p ≡ true → HasImage p.slots (chosen_side p) p.staged
  pub rest : is_pending p ≡ false → IsAtRest p
