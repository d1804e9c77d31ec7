-- What the parts of a mote of layout 2 become when one page of its flashes is programmed, to whatever bytes.
use Rattle.std.specs.Prelude.{◌≡◌, ℕ, ◌+◌, ◌-◌, ◌*◌, ◌<◌, ◌≤◌, ◌==◌, List, length, slice_index, slice_set, if◌then◌else◌}
use Rattle.std.specs.List.{concat}
use Rattle.component_package.specs.mote.Sides.{pages_from}
use Rattle.kept_definitions.specs.Kept.{inbox_of, tables_of}
use Rattle.kept_definitions.specs.Sides.{Parts, parts_of, is_on_b}
use Rattle.kept_laws.specs.Steps.{with_gate, with_other_side}

-- the first page of the side that isn't chosen
abbrev pub other_first : Parts → ℕ
other_first p = if is_on_b p then 8 else 13

-- One page of external flash is one gate, or is in one area or one slot, and changes nothing else.
pub record EachPageIsInOnePart : Type 0 where
  pub gate : (prog ext : List (List ℕ)) (page : ℕ) (bytes : List ℕ) → page < 8 → 8 ≤ length ext
      → parts_of prog (slice_set ext page bytes) ≡ with_gate page (slice_index bytes 0 == 165) (parts_of prog ext)
  pub side_a : (prog ext : List (List ℕ)) (page : ℕ) (bytes : List ℕ) → 8 ≤ page → page < 13
      → parts_of prog (slice_set ext page bytes) ≡ record (parts_of prog ext) { side_a = concat (slice_set (pages_from 8 5 ext) (page - 8) bytes) }
  pub side_b : (prog ext : List (List ℕ)) (page : ℕ) (bytes : List ℕ) → 13 ≤ page → page < 18
      → parts_of prog (slice_set ext page bytes) ≡ record (parts_of prog ext) { side_b = concat (slice_set (pages_from 13 5 ext) (page - 13) bytes) }
  -- page i of the side that isn't chosen
  pub other : (prog ext : List (List ℕ)) (i : ℕ) (bytes : List ℕ) → i < 5
      → parts_of prog (slice_set ext (other_first (parts_of prog ext) + i) bytes)
      ≡ with_other_side (concat (slice_set (pages_from (other_first (parts_of prog ext)) 5 ext) i bytes)) (parts_of prog ext)
  pub symbols : (prog ext : List (List ℕ)) (page : ℕ) (bytes : List ℕ) → 18 ≤ page → page < 50
      → parts_of prog (slice_set ext page bytes) ≡ record (parts_of prog ext) { symbols = concat (slice_set (pages_from 18 32 ext) (page - 18) bytes) }
  pub relocs : (prog ext : List (List ℕ)) (page : ℕ) (bytes : List ℕ) → 50 ≤ page → page < 306
      → parts_of prog (slice_set ext page bytes) ≡ record (parts_of prog ext) { relocs = concat (slice_set (pages_from 50 256 ext) (page - 50) bytes) }
  pub staged : (prog ext : List (List ℕ)) (page : ℕ) (bytes : List ℕ) → 306 ≤ page → page < 786
      → parts_of prog (slice_set ext page bytes) ≡ record (parts_of prog ext) { staged = slice_set (pages_from 306 480 ext) (page - 306) bytes }
  -- page i of inbox slot s, and of table slot s
  pub inbox : (prog ext : List (List ℕ)) (s i : ℕ) (bytes : List ℕ) → s < 16 → i < 39
      → parts_of prog (slice_set ext (786 + 39 * s + i) bytes)
      ≡ record (parts_of prog ext) { inbox = slice_set (inbox_of ext) s (concat (slice_set (pages_from (786 + 39 * s) 39 ext) i bytes)) }
  pub table : (prog ext : List (List ℕ)) (s i : ℕ) (bytes : List ℕ) → s < 16 → i < 39
      → parts_of prog (slice_set ext (1410 + 39 * s + i) bytes)
      ≡ record (parts_of prog ext) { tables = slice_set (tables_of ext) s (concat (slice_set (pages_from (1410 + 39 * s) 39 ext) i bytes)) }
  pub unused : (prog ext : List (List ℕ)) (page : ℕ) (bytes : List ℕ) → 2034 ≤ page → parts_of prog (slice_set ext page bytes) ≡ parts_of prog ext
  pub prog : (prog ext : List (List ℕ)) (page : ℕ) (bytes : List ℕ)
      → parts_of (slice_set prog page bytes) ext ≡ record (parts_of prog ext) { prog = slice_set prog page bytes }
