-- The parts of a mote's flashes that an update goes through: gates, the two sides, areas and slots.
use Rattle.std.specs.Prelude.{ℕ, ◌==◌, ◌&&◌, nat_lt, Bool, true, false, List, [], take, drop, slice_index, slice_index_or, if◌then◌else◌}
use Rattle.std.specs.List.{concat}
use Rattle.component_package.specs.declared.areas.TheConstants.{MANIFEST_A, MANIFEST_B, SIDE_PAGES, SYMBOLS, SYMBOL_PAGES, RELOCATIONS, RELOCATION_PAGES, STAGED, IMAGE_PAGES}
use Rattle.component_package.specs.mote.Store.{slots_of}

-- the pages of the gates, in order: the flash is formatted; the other side is the incoming release; its symbols are merged; its relocations
-- are listed; its image is staged; side A, side B is being installed; side B is the chosen one
abbrev pub fmt : ℕ
fmt = 0

abbrev pub man : ℕ
man = 1

abbrev pub sym : ℕ
sym = 2

abbrev pub rel : ℕ
rel = 3

abbrev pub img : ℕ
img = 4

abbrev pub go_a : ℕ
go_a = 5

abbrev pub go_b : ℕ
go_b = 6

abbrev pub sel : ℕ
sel = 7

-- a gate is open exactly where its page's first byte is 0xA5
abbrev pub is_open : List (List ℕ) → ℕ → Bool
is_open ext gate = slice_index (slice_index_or ext gate []) 0 == 165

-- so many pages of external flash from this one on
abbrev pub pages_from : ℕ → ℕ → List (List ℕ) → List (List ℕ)
pages_from first count ext = take count (drop first ext)

-- the parts that soundness speaks of
pub record Parts : Type 0 where
  -- by the number of its page: there are eight, and from 8 on none is open
  pub gates : ℕ → Bool
  pub prog : List (List ℕ)
  -- the bytes of the five pages of each side
  pub side_a : List ℕ
  pub side_b : List ℕ
  -- the bytes of the areas of merged symbols and of relocations
  pub symbols : List ℕ
  pub relocs : List ℕ
  -- the pages of the staged image
  pub staged : List (List ℕ)
  pub slots : List (List ℕ)

-- the parts of program flash and external flash
abbrev pub parts_of : List (List ℕ) → List (List ℕ) → Parts
parts_of prog ext = record {
  gates = λ gate. nat_lt gate 8 && is_open ext gate;
  prog = prog;
  side_a = concat (pages_from MANIFEST_A SIDE_PAGES ext);
  side_b = concat (pages_from MANIFEST_B SIDE_PAGES ext);
  symbols = concat (pages_from SYMBOLS SYMBOL_PAGES ext);
  relocs = concat (pages_from RELOCATIONS RELOCATION_PAGES ext);
  staged = pages_from STAGED IMAGE_PAGES ext;
  slots = slots_of ext;
}

-- the chosen side is B: its installation began, or no installation of A did and B was chosen last
abbrev pub is_on_b : Parts → Bool
is_on_b p = if p.gates go_a then false else if p.gates go_b then true else p.gates sel

-- the bytes of the chosen side, and of the other
abbrev pub chosen_side : Parts → List ℕ
chosen_side p = if is_on_b p then p.side_b else p.side_a

abbrev pub other_side : Parts → List ℕ
other_side p = if is_on_b p then p.side_a else p.side_b

-- a commit stands: an installation began and isn't finished
abbrev pub is_pending : Parts → Bool
is_pending p = if p.gates go_a then true else p.gates go_b
