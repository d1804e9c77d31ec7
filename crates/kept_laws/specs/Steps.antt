-- Each step of the install journal keeps a mote of layout 2 sound, whatever bytes a cut leaves in the page that it programs.
use Rattle.std.specs.Prelude.{◌≡◌, ◌≢◌, ℕ, ◌==◌, Bool, true, false, List, take, slice_set, if◌then◌else◌}
use Rattle.std.specs.List.{AllByRecursion}
use Rattle.component_package.specs.mote.Sides.{man, sym, rel, img, go_a, go_b, sel}
use Rattle.component_package.specs.packages.Reading.{header_of}
use Rattle.kept_definitions.specs.Runs.{run_length, run_in_table}
use Rattle.kept_definitions.specs.Stored.{Placed, StoredRelease, Stores}
use Rattle.kept_definitions.specs.Kept.{Chosen, table_run, coming_set}
use Rattle.kept_definitions.specs.Sides.{Parts, is_on_b, chosen_side, other_side, is_pending}
use Rattle.kept_definitions.specs.Sound.{HoldsSet, HasNoCause, HasLateCause, HasTable, HasList, HasImage, IsNext, IsSound}
use Rattle.kept_definitions.specs.Headline.{Chooses}
use Rattle.kept_laws.specs.Laws.{KeepsItsRun}

-- ---- parts after a program

-- the parts with a gate so
abbrev pub with_gate : ℕ → Bool → Parts → Parts
with_gate gate stands p = record p { gates = λ g. if g == gate then stands else p.gates g }

-- the parts with other bytes on the side that isn't chosen
abbrev pub with_other_side : List ℕ → Parts → Parts
with_other_side bytes p = record p { side_a = if is_on_b p then bytes else p.side_a; side_b = if is_on_b p then p.side_b else bytes }

-- the Go gate of the side that isn't chosen
abbrev pub other_go : Parts → ℕ
other_go p = if is_on_b p then go_a else go_b

-- the Go gate of the chosen side
abbrev pub chosen_go : Parts → ℕ
chosen_go p = if is_on_b p then go_b else go_a

-- ---- what a step keeps

-- the parts after it are sound, and choose the release and the set that they chose before
pub record Keeps (p q : Parts) : Type 0 where
  pub sound : IsSound q
  pub chosen : (c : Chosen) → Chooses p c → Chooses q c

-- the other side has that release, and that set comes in over the chosen one
pub record HasOther (p : Parts) (c : Chosen) : Type 0 where
  pub release : Stores (other_side p) c.release
  pub now : Chosen
  pub is_now : Chooses p now
  pub set : coming_set now p.inbox c.release ≡ c.set

-- ---- gates that are closed

-- A gate that is closed may stand either way until it is done, and what rests on it is closed before.
pub record ClosingKeeps : Type 0 where
  pub image : (p : Parts) (b : Bool) → IsSound p → p.gates img ≡ true → Keeps p (with_gate img b p)
  pub relocs : (p : Parts) (b : Bool) → IsSound p → p.gates rel ≡ true → p.gates img ≡ false → Keeps p (with_gate rel b p)
  pub symbols : (p : Parts) (b : Bool) → IsSound p → p.gates sym ≡ true → p.gates rel ≡ false → p.gates img ≡ false → Keeps p (with_gate sym b p)
  pub manifest : (p : Parts) (b : Bool) → IsSound p → p.gates man ≡ true → p.gates sym ≡ false → p.gates rel ≡ false → p.gates img ≡ false
      → Keeps p (with_gate man b p)

-- ---- pages that are written

-- a table slot from which nothing is taken back while the release is installed: no entry has it but a fresh one
abbrev pub HasNoRun : StoredRelease → ℕ → Type 0
HasNoRun m s = AllByRecursion (λ q. q.fresh ≡ false → q.slot ≢ s) m.placed

-- the same run stands in an entry's table slot
abbrev pub SameRun : (before after : List (List ℕ)) → Placed → Type 0
SameRun before after q = table_run after q ≡ table_run before q

-- A page changes only while its gate is closed. Inbox and tables change by turns: the inbox where no commit stands, since then the chosen set is in
-- program flash and the tables; the table slots of fresh entries where one stands, since then these are read from the inbox.
pub record WritingKeeps : Type 0 where
  pub side : (p : Parts) (bytes : List ℕ) → IsSound p → is_pending p ≡ false → p.gates man ≡ false → Keeps p (with_other_side bytes p)
  pub symbols : (p : Parts) (area : List ℕ) → IsSound p → p.gates sym ≡ false → Keeps p (record p { symbols = area })
  pub relocs : (p : Parts) (area : List ℕ) → IsSound p → p.gates rel ≡ false → Keeps p (record p { relocs = area })
  pub staged : (p : Parts) (pages : List (List ℕ)) → IsSound p → is_pending p ≡ false → p.gates img ≡ false → Keeps p (record p { staged = pages })
  pub inbox : (p : Parts) (slots : List (List ℕ)) → IsSound p → is_pending p ≡ false → p.gates sym ≡ false → Keeps p (record p { inbox = slots })
  pub prog : (p : Parts) (pages : List (List ℕ)) → IsSound p → is_pending p ≡ true → Keeps p (record p { prog = pages })
  pub table : (p : Parts) (s : ℕ) (bytes : List ℕ) → IsSound p → is_pending p ≡ true
      → ((m : StoredRelease) → Stores (chosen_side p) m → HasNoRun m s) → Keeps p (record p { tables = slice_set p.tables s bytes })

-- ---- gates that are opened

-- A gate is opened where what it vouches for holds, so that it may stand either way meanwhile.
pub record OpeningKeeps : Type 0 where
  pub manifest : (p : Parts) (b : Bool) → IsSound p → is_pending p ≡ false → p.gates man ≡ false → IsNext (chosen_side p) (other_side p)
      → Keeps p (with_gate man b p)
  pub symbols : (p : Parts) (b : Bool) → IsSound p → is_pending p ≡ false → p.gates sym ≡ false → p.gates man ≡ true
      → HoldsSet p.tables p.prog p.inbox (chosen_side p) (other_side p) → HasLateCause p.tables p.prog p.inbox (chosen_side p) (other_side p)
      → HasTable p.tables p.prog p.inbox (chosen_side p) (other_side p) p.symbols → Keeps p (with_gate sym b p)
  pub relocs : (p : Parts) (b : Bool) → IsSound p → is_pending p ≡ false → p.gates rel ≡ false → p.gates sym ≡ true
      → HasNoCause p.tables p.prog p.inbox (chosen_side p) (other_side p) → HasList p.tables p.prog p.inbox (chosen_side p) (other_side p) p.relocs
      → Keeps p (with_gate rel b p)
  pub image : (p : Parts) (b : Bool) → IsSound p → is_pending p ≡ false → p.gates img ≡ false → p.gates rel ≡ true
      → HasImage p.tables p.prog p.inbox (chosen_side p) (other_side p) p.staged → Keeps p (with_gate img b p)

-- ---- a commit, and its end

-- the mote is sound either way, and chooses the incoming set where the gate came to be open, taken back from the staged pages, else what it chose before
pub record Commits (p : Parts) (b : Bool) (q : Parts) : Type 0 where
  pub sound : IsSound q
  pub before : b ≡ false → (c : Chosen) → Chooses p c → Chooses q c
  pub behind : b ≡ true → (c : Chosen) → HasOther p c → Chooses q c

-- The other side's Go gate is opened where the image gate is open.
abbrev pub CommitIsWhole : Type 0
CommitIsWhole = (p : Parts) (b : Bool) → IsSound p → is_pending p ≡ false → p.gates img ≡ true → Commits p b (with_gate (other_go p) b p)

-- Sel is brought over to the chosen side while a Go gate is open.
abbrev pub SelectingKeeps : Type 0
SelectingKeeps = (p : Parts) (b : Bool) → IsSound p → is_pending p ≡ true → Keeps p (with_gate sel b p)

-- The Go gate is closed last: program flash is the staged image, the table slots of fresh entries begin with their runs, Sel stands at the chosen side,
-- and nothing incoming counts. Closed before the runs are in the tables, it would leave a set that nothing gives back.
abbrev pub FinishingKeeps : Type 0
FinishingKeeps = (p : Parts) (b : Bool) → IsSound p → is_pending p ≡ true → p.gates sel ≡ is_on_b p → p.gates img ≡ false → p.gates rel ≡ false
    → p.gates sym ≡ false → p.gates man ≡ false → p.prog ≡ p.staged
    → ((m : StoredRelease) → Stores (chosen_side p) m → AllByRecursion (KeepsItsRun p.tables p.inbox) m.placed) → Keeps p (with_gate (chosen_go p) b p)

-- What is in the inbox, and in a table slot behind its run, is nothing to an installed set where nothing is merged: it is free for the application.
pub record RestIsFree : Type 0 where
  pub keeps : (p : Parts) (inbox tables : List (List ℕ)) → IsSound p → is_pending p ≡ false → p.gates sym ≡ false
      → ((m : StoredRelease) → Stores (chosen_side p) m → AllByRecursion (SameRun p.tables tables) m.placed) → Keeps p (record p { inbox = inbox; tables = tables })
  -- a slot has the same run where the bytes stay that its run has
  pub run : (before after : List ℕ) → take (run_length (header_of before)) after ≡ take (run_length (header_of before)) before → run_in_table after ≡ run_in_table before
