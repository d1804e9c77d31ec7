-- What the parts of a mote become when one page of its flashes is programmed, to whatever bytes.
use Rattle.std.specs.Prelude.{◌≡◌, ℕ, ◌+◌, ◌-◌, ◌*◌, ◌<◌, ◌≤◌, ◌==◌, List, ◌++◌, length, take, drop, slice_index, slice_set, if◌then◌else◌}
use Rattle.std.specs.List.{concat, AllByRecursion}
use Rattle.component_package.specs.declared.areas.TheConstants.{MANIFEST_A, MANIFEST_B, SIDE_PAGES, SYMBOLS, SYMBOL_PAGES, RELOCATIONS, RELOCATION_PAGES, STAGED, IMAGE_PAGES, SLOTS, SLOT_PAGES}
use Rattle.component_package.specs.mote.Store.{slot_start, page_of_slot, slots_of}
use Rattle.component_package.specs.mote.Sides.{Parts, parts_of, pages_from, is_on_b}
use Rattle.mote_laws.specs.Steps.{with_gate, with_other_side}

-- a page has 256 bytes
abbrev pub IsWholePage : List ℕ → Type 0
IsWholePage page = length page ≡ 256

-- the first page of the side that isn't chosen
abbrev pub other_first : Parts → ℕ
other_first p = if is_on_b p then MANIFEST_A else MANIFEST_B

-- One page of external flash is one gate, or is in one area or one slot, and changes nothing else.
pub record EachPageIsInOnePart : Type 0 where
  pub gate : (prog ext : List (List ℕ)) (page : ℕ) (bytes : List ℕ) → page < MANIFEST_A → MANIFEST_A ≤ length ext
      → parts_of prog (slice_set ext page bytes) ≡ with_gate page (slice_index bytes 0 == 165) (parts_of prog ext)
  pub side_a : (prog ext : List (List ℕ)) (page : ℕ) (bytes : List ℕ) → MANIFEST_A ≤ page → page < MANIFEST_B
      → parts_of prog (slice_set ext page bytes) ≡ record (parts_of prog ext) { side_a = concat (slice_set (pages_from MANIFEST_A SIDE_PAGES ext) (page - MANIFEST_A) bytes) }
  pub side_b : (prog ext : List (List ℕ)) (page : ℕ) (bytes : List ℕ) → MANIFEST_B ≤ page → page < SYMBOLS
      → parts_of prog (slice_set ext page bytes) ≡ record (parts_of prog ext) { side_b = concat (slice_set (pages_from MANIFEST_B SIDE_PAGES ext) (page - MANIFEST_B) bytes) }
  -- page i of the side that isn't chosen
  pub other : (prog ext : List (List ℕ)) (i : ℕ) (bytes : List ℕ) → i < SIDE_PAGES
      → parts_of prog (slice_set ext (other_first (parts_of prog ext) + i) bytes)
      ≡ with_other_side (concat (slice_set (pages_from (other_first (parts_of prog ext)) SIDE_PAGES ext) i bytes)) (parts_of prog ext)
  pub symbols : (prog ext : List (List ℕ)) (page : ℕ) (bytes : List ℕ) → SYMBOLS ≤ page → page < RELOCATIONS
      → parts_of prog (slice_set ext page bytes) ≡ record (parts_of prog ext) { symbols = concat (slice_set (pages_from SYMBOLS SYMBOL_PAGES ext) (page - SYMBOLS) bytes) }
  pub relocs : (prog ext : List (List ℕ)) (page : ℕ) (bytes : List ℕ) → RELOCATIONS ≤ page → page < STAGED
      → parts_of prog (slice_set ext page bytes) ≡ record (parts_of prog ext) { relocs = concat (slice_set (pages_from RELOCATIONS RELOCATION_PAGES ext) (page - RELOCATIONS) bytes) }
  pub staged : (prog ext : List (List ℕ)) (page : ℕ) (bytes : List ℕ) → STAGED ≤ page → page < SLOTS
      → parts_of prog (slice_set ext page bytes) ≡ record (parts_of prog ext) { staged = slice_set (pages_from STAGED IMAGE_PAGES ext) (page - STAGED) bytes }
  -- page i of slot s
  pub slot : (prog ext : List (List ℕ)) (s i : ℕ) (bytes : List ℕ) → s < 32 → i < SLOT_PAGES
      → parts_of prog (slice_set ext (page_of_slot s i) bytes)
      ≡ record (parts_of prog ext) { slots = slice_set (slots_of ext) s (concat (slice_set (pages_from (slot_start s) SLOT_PAGES ext) i bytes)) }
  pub unused : (prog ext : List (List ℕ)) (page : ℕ) (bytes : List ℕ) → slot_start 32 ≤ page → parts_of prog (slice_set ext page bytes) ≡ parts_of prog ext
  pub prog : (prog ext : List (List ℕ)) (page : ℕ) (bytes : List ℕ)
      → parts_of (slice_set prog page bytes) ext ≡ record (parts_of prog ext) { prog = slice_set prog page bytes }

-- Whole pages joined, with one of them set: its 256 bytes are others, and all else stays.
abbrev pub JoinedPageIsPut : Type 0
JoinedPageIsPut = (pages : List (List ℕ)) (i : ℕ) (bytes : List ℕ) → AllByRecursion IsWholePage pages → i < length pages
    → concat (slice_set pages i bytes) ≡ take (256 * i) (concat pages) ++ (bytes ++ drop (256 * i + 256) (concat pages))
