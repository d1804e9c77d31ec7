-- Table slots that are filled with the runs of packages in the inbox.
use Rattle.std.specs.Prelude.{◌≡◌, ◌≢◌, ◌<◌, ◌+◌, ◌-◌, ◌*◌, ◌/◌, ◌≤◌, ◌&&◌, ◌++◌, nat_le, nat_lt, ℕ, Bool, false, List, [], length, take, drop, replicate, slice_index_or, slice_set, Some}
use Rattle.std.specs.Prelude.{if◌then◌else◌}
use Rattle.flash_pages.specs.State.{State, Place, Prog, Ext, IsState, OnlyPages, page_at}
use Rattle.flash_pages.specs.Board.{View}
use Rattle.component_package.specs.declared.areas.TheConstants.{SLOT_PAGES}
use Rattle.component_package.specs.declared.part.Header.{Header}
use Rattle.component_package.specs.packages.Reading.{header_of, total_of, list_of}
use Rattle.kept_definitions.specs.declared.areas.TheConstants.{TABLES}
use Rattle.kept_definitions.specs.Runs.{run_length, run_in_package}
use Rattle.kept_definitions.specs.Kept.{inbox_of}
use Rattle.kept_definitions.specs.Sides.{parts_of}

-- ---- slots

-- the first page of a table slot
abbrev pub table_first : ℕ → ℕ
table_first slot = TABLES + SLOT_PAGES * slot

-- the pages of a table slot
abbrev pub table_pages : ℕ → Place → Bool
table_pages slot (Prog page) = false
table_pages slot (Ext page) = nat_le (table_first slot) page && nat_lt page (table_first slot + SLOT_PAGES)

-- the bytes of an inbox slot
abbrev pub inbox_slot : ℕ → State → List ℕ
inbox_slot slot s = slice_index_or (inbox_of s.ext) slot []

-- the package in an inbox slot is no longer than the slot, as its header says
abbrev pub FitsSlot : ℕ → State → Type 0
FitsSlot slot s = total_of (header_of (inbox_slot slot s)) ≤ 9984

-- ---- runs in pages

-- page j of a run, with 0xFF behind its end
abbrev pub run_page : List ℕ → ℕ → List ℕ
run_page run j = let part = take 256 (drop (256 * j) run) in part ++ replicate (256 - length part) 255

-- how many pages so many bytes take
abbrev pub pages_for : ℕ → ℕ
pages_for n = (n + 255) / 256

-- the pages of the run of the package in an inbox slot
abbrev pub run_pages : ℕ → State → List (List ℕ)
run_pages slot s = let run = run_in_package (inbox_slot slot s) in list_of (run_page run) (pages_for (length run))

-- s with these pages of external flash from the first on
abbrev pub with_pages : ℕ → List (List ℕ) → State → State
with_pages first pages s = record s { ext = (take first s.ext ++ pages) ++ drop (first + length pages) s.ext }

-- The run of the package in the inbox slot stands in the first pages of the table slot of the same number, and 0xFF behind it to the end of its last page.
-- Where that package doesn't fit its slot, nothing is written.
abbrev pub with_run : ℕ → State → State
with_run slot s = if nat_le (total_of (header_of (inbox_slot slot s))) 9984 then with_pages (table_first slot) (run_pages slot s) s else s

-- ---- what is kept, and what a cut may leave

-- The table slot begins with the run of the package in the inbox slot, and of all parts only this slot is another.
pub record KeepsRun (slot : ℕ) (s : State) (v : View) : Type 0 where
  pub end : State
  pub told : v.state ≡ Some end
  pub rest : List ℕ
  pub parts_are : parts_of end.prog end.ext ≡ record (parts_of s.prog s.ext) {
    tables = slice_set (parts_of s.prog s.ext).tables slot (run_in_package (inbox_slot slot s) ++ rest);
  }

-- Only this table slot may have changed, and its pages are pages.
pub record OnlyTable (slot : ℕ) (s x : State) : Type 0 where
  pub pages : OnlyPages (table_pages slot) s x
  pub prog : x.prog ≡ s.prog
  pub bytes : List ℕ
  pub parts_are : parts_of x.prog x.ext ≡ record (parts_of s.prog s.ext) { tables = slice_set (parts_of s.prog s.ext).tables slot bytes }
  pub whole : IsState x

-- The page is one of those that the run takes, and holds other bytes than the run has there.
pub record IsDue (slot : ℕ) (s : State) (place : Place) : Type 0 where
  pub fits : FitsSlot slot s
  pub page : ℕ
  pub within : page < length (run_pages slot s)
  pub is : place ≡ Ext (table_first slot + page)
  pub differs : page_at s place ≢ slice_index_or (run_pages slot s) page []

-- ---- helpers of the proofs, which nobody needs to believe

-- how many pages the run takes whose package has this header; none where the package doesn't fit a slot
abbrev pub run_page_count : Header → ℕ
run_page_count h = if nat_le (total_of h) 9984 then pages_for (run_length h) else 0

-- page j of a table slot is to be programmed, if the header was read: it holds other bytes than the run has there
abbrev pub IsAnother : ℕ → Header → ℕ → State → Type 0
IsAnother slot h j s = h ≡ header_of (inbox_slot slot s) → page_at s (Ext (table_first slot + j)) ≢ run_page (run_in_package (inbox_slot slot s)) j
