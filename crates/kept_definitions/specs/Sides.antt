-- The parts of a mote's flashes in layout 2: gates, the two sides, areas, inbox and tables.
use Rattle.std.specs.Prelude.{ℕ, ◌&&◌, nat_lt, Bool, true, false, List, if◌then◌else◌}
use Rattle.std.specs.List.{concat}
use Rattle.component_package.specs.declared.areas.TheConstants.{MANIFEST_A, MANIFEST_B, SIDE_PAGES, SYMBOLS, SYMBOL_PAGES, RELOCATIONS, RELOCATION_PAGES, STAGED, IMAGE_PAGES}
use Rattle.component_package.specs.mote.Sides.{is_open, pages_from, go_a, go_b, sel}
use Rattle.component_package.specs.packages.Component.{Component}
use Rattle.kept_definitions.specs.Stored.{StoredRelease}
use Rattle.kept_definitions.specs.Kept.{inbox_of, tables_of, kept_packages, going_packages, components_in}

-- the parts that soundness speaks of
pub record Parts : Type 0 where
  -- by the number of its page: there are eight, and from 8 on none is open
  pub gates : ℕ → Bool
  pub prog : List (List ℕ)
  -- the bytes of the five pages of each side
  pub side_a : List ℕ
  pub side_b : List ℕ
  -- the bytes of the areas of merged symbols and of relocations
  pub symbols : List ℕ
  pub relocs : List ℕ
  -- the pages of the staged image
  pub staged : List (List ℕ)
  -- 16 slots for packages that come in, and 16 for the runs of installed ones
  pub inbox : List (List ℕ)
  pub tables : List (List ℕ)

-- the parts of program flash and external flash
abbrev pub parts_of : List (List ℕ) → List (List ℕ) → Parts
parts_of prog ext = record {
  gates = λ gate. nat_lt gate 8 && is_open ext gate;
  prog = prog;
  side_a = concat (pages_from MANIFEST_A SIDE_PAGES ext);
  side_b = concat (pages_from MANIFEST_B SIDE_PAGES ext);
  symbols = concat (pages_from SYMBOLS SYMBOL_PAGES ext);
  relocs = concat (pages_from RELOCATIONS RELOCATION_PAGES ext);
  staged = pages_from STAGED IMAGE_PAGES ext;
  inbox = inbox_of ext;
  tables = tables_of ext;
}

-- the chosen side is B: its installation began, or no installation of A did and B was chosen last
abbrev pub is_on_b : Parts → Bool
is_on_b p = if p.gates go_a then false else if p.gates go_b then true else p.gates sel

-- the bytes of the chosen side
abbrev pub chosen_side : Parts → List ℕ
chosen_side p = if is_on_b p then p.side_b else p.side_a

-- the bytes of the side that is not chosen
abbrev pub other_side : Parts → List ℕ
other_side p = if is_on_b p then p.side_a else p.side_b

-- a commit stands: an installation began and isn't finished
abbrev pub is_pending : Parts → Bool
is_pending p = if p.gates go_a then true else p.gates go_b

-- the set of a release that is installed here
abbrev pub kept_set : List (List ℕ) → List (List ℕ) → StoredRelease → List Component
kept_set tables pages m = components_in (kept_packages tables pages m)

-- the set of a release that is being installed
abbrev pub going_set : List (List ℕ) → List (List ℕ) → List (List ℕ) → StoredRelease → List Component
going_set tables inbox staged m = components_in (going_packages tables inbox staged m)

-- the set of the chosen release: it is being installed where a commit stands, else it is in program flash
abbrev pub set_of : Parts → StoredRelease → List Component
set_of p m = if is_pending p then going_set p.tables p.inbox p.staged m else kept_set p.tables p.prog m
