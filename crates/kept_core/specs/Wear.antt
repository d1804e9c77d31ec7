-- How often the work of a frame programs the pages that LINK and BOOT write.
use Rattle.std.specs.Prelude.{◌≡◌, ◌⊎◌, ℕ, ◌+◌, ◌<◌, ◌≤◌, ◌&&◌, ◌||◌, nat_le, Bool, true, false, List, [], slice_index_or, Some}
use Rattle.flash_pages.specs.State.{State, Place, Prog, Ext, page_at, ext_pages}
use Rattle.flash_pages.specs.Board.{View, Told}
use Rattle.component_package.specs.packages.Component.{Component}
use Rattle.kept_definitions.specs.Stored.{StoredRelease}
use Rattle.component_package.specs.link.Areas.{MergedSymbol, list_bytes}
use Rattle.component_package.specs.link.Pages.{IsTableOf, listed, page_in, IsPages}
use Rattle.kept_definitions.specs.Kept.{coming_set}
use Rattle.component_package.specs.mote.Frames.{Frame}
use Rattle.kept_definitions.specs.Machine.{Mote}
use Rattle.kept_journal.specs.declared.standing.Standing.{Standing}
use Rattle.kept_journal.specs.Steps.{parts, Stands}
use Rattle.kept_journal.specs.Standing.{IsOfMote, IsStanding}
use Rattle.kept_core.specs.Serving.{BootsAlike}

-- the pages that LINK and BOOT write but for table slots: program flash, and the areas of merged symbols, of the relocation list and of the staged image
abbrev pub is_written : Place → Bool
is_written (Prog page) = true
is_written (Ext page) = nat_le 18 page && nat_le page 785

-- the pages of table slots
abbrev pub is_table : Place → Bool
is_table (Prog page) = false
is_table (Ext page) = nat_le 1410 page && nat_le page 2033

-- what only LINK and BOOT program
abbrev pub is_watched : Place → Bool
is_watched place = is_written place || is_table place

-- the page was not programmed
abbrev pub IsSpared : Place → View → View → Type 0
IsSpared place old new = new.programs place ≡ old.programs place

-- a page of the relocation area was not programmed where z holds already that page of the set's list
abbrev pub SparesList : List Component → State → View → View → Type 0
SparesList set z old new = (table : List MergedSymbol) (page : ℕ) → IsTableOf set table → page < 256
    → page_at z (Ext (50 + page)) ≡ page_in (list_bytes (listed set table)) page → IsSpared (Ext (50 + page)) old new

-- a staged page was not programmed where z holds already that page of the set's image
abbrev pub SparesStaged : List Component → State → View → View → Type 0
SparesStaged set z old new = (pages : List (List ℕ)) (page : ℕ) → IsPages set pages → page < 480
    → page_at z (Ext (306 + page)) ≡ slice_index_or pages page [] → IsSpared (Ext (306 + page)) old new

-- a program page was not programmed where z holds already that page of the set's image
abbrev pub SparesProgram : List Component → State → View → View → Type 0
SparesProgram set z old new = (pages : List (List ℕ)) (page : ℕ) → IsPages set pages
    → page_at z (Prog page) ≡ slice_index_or pages page [] → IsSpared (Prog page) old new

-- a page of the symbol area was not programmed where it holds now what z holds
abbrev pub SparesSymbols : State → View → View → Type 0
SparesSymbols z old new = Told new (λ x. (page : ℕ) → page < 32 → page_at x (Ext (18 + page)) ≡ page_at z (Ext (18 + page)) → IsSpared (Ext (18 + page)) old new)

-- The wear of a frame's work on z, which stands for the mote t, answered or failed.
pub record Wears (t : Mote) (f : Frame) (answered : Bool) (z : State) (old new : View) : Type 0 where
  -- each of those pages was programmed once at most
  pub once : (place : Place) → is_written place ≡ true → new.programs place ≤ old.programs place + 1
  -- an area by LINK alone, and program flash by BOOT alone, where a commit stands
  pub areas : (page : ℕ) → (f.kind ≡ 3 → ⊥) → 18 ≤ page → page ≤ 785 → IsSpared (Ext page) old new
  pub program : (page : ℕ) → (f.kind ≡ 5 → ⊥) ⊎ (t.standing ≡ false) → IsSpared (Prog page) old new
  -- a table slot by BOOT alone, where a commit stands
  pub tables : (page : ℕ) → (f.kind ≡ 5 → ⊥) ⊎ (t.standing ≡ false) → 1410 ≤ page → page ≤ 2033 → IsSpared (Ext page) old new
  -- and none that is already what the set that is linked, or booted, has there
  pub list : (m : StoredRelease) → t.incoming ≡ Some m → SparesList (coming_set t.current t.inbox m) z old new
  pub staged : (m : StoredRelease) → t.incoming ≡ Some m → SparesStaged (coming_set t.current t.inbox m) z old new
  pub booted : SparesProgram t.current.set z old new
  pub symbols : answered ≡ true → SparesSymbols z old new

abbrev pub WearsWork : Bool → Frame → View → View → Type 0
WearsWork answered f old new = (z : State) (t : Mote) → old.state ≡ Some z → Stands z t → Wears t f answered z old new

-- the same where this is what the gates and the sides say of the mote
abbrev pub WearsRead : Bool → Standing → Frame → View → View → Type 0
WearsRead answered a f old new = (z : State) (t : Mote) → old.state ≡ Some z → Stands z t → IsOfMote t a → IsStanding (parts z) a → Wears t f answered z old new

-- ---- parts of the work

-- none of these pages was programmed
abbrev pub IsIdle : View → View → Type 0
IsIdle old new = (place : Place) → is_watched place ≡ true → IsSpared place old new

-- A part of LINK on any board that tells its state, from s: of these pages it changed and programmed those from `first` to `last` alone, each once at
-- most. Where it was answered, what boots is as it was, and each page of symbols that holds what it held was not programmed.
pub record WorksIn (first last : ℕ) (answered : Bool) (s : State) (old new : View) : Type 0 where
  pub end : State
  pub told : new.state ≡ Some end
  pub same : (place : Place) → is_watched place ≡ true → ext_pages first last place ≡ false → page_at end place ≡ page_at s place
  pub spared : (place : Place) → is_watched place ≡ true → ext_pages first last place ≡ false → IsSpared place old new
  pub once : (place : Place) → is_watched place ≡ true → new.programs place ≤ old.programs place + 1
  pub boots : answered ≡ true → BootsAlike (parts s) (parts end)
  pub symbols : answered ≡ true → SparesSymbols s old new
