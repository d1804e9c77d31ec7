-- What the calls on slots rest on: what a run tells, a part that is read from program flash, and table slots that are filled.
use Rattle.std.specs.Prelude.{◌≡◌, ◌≢◌, ℕ, ◌+◌, ◌*◌, ◌<◌, ◌≤◌, Bool, true, false, List, [], ◌++◌, length, slice_get, slice_index, slice_index_or, slice_range, slice_set, bit_and, is_some, if◌then◌else◌, Some, None}
use Rattle.std.specs.List.{concat, AllByRecursion}
use Rattle.avr_reloc.specs.Field.{AreBytes}
use Rattle.component_package.specs.declared.part.Export.{Export}
use Rattle.component_package.specs.declared.part.Reloc.{Reloc}
use Rattle.component_package.specs.packages.Component.{Component, export_bytes, reloc_bytes}
use Rattle.component_package.specs.packages.Reading.{header_of, header_of_component}
use Rattle.component_package.specs.packages.Grammar.{IsComponent}
use Rattle.component_package.specs.link.Layout.{code_base, load_base}
use Rattle.component_package.specs.link.Link.{rooms_of}
use Rattle.component_package.specs.link.Pages.{IsPages}
use Rattle.kept_definitions.specs.declared.areas.TheConstants.{INBOX, TABLES}
use Rattle.kept_definitions.specs.Runs.{run_of, bits_kept}
use Rattle.kept_definitions.specs.Stored.{Placed, StoredRelease, IsStored}
use Rattle.component_package.specs.mote.Store.{slot_at}
use Rattle.kept_definitions.specs.Kept.{slot_from, Chosen, going_run, held_component, HasComing, set_fault}
use Rattle.kept_laws.specs.Laws.{Begins, KeepsItsRun}
use Rattle.kept_laws.specs.Steps.{HasNoRun}

-- ---- runs

-- A slot that begins with a component's run has its header, and the bytes of its exports and relocations where the run has them.
pub record RunTells : Type 0 where
  pub header : (slot : List ℕ) (c : Component) → Begins slot (run_of c) → header_of slot ≡ header_of_component c
  pub export : (slot : List ℕ) (c : Component) (i : ℕ) (e : Export) → Begins slot (run_of c) → slice_get c.exports i ≡ Some e
      → slice_range slot (32 + 6 * i) (32 + 6 * i + 6) ≡ export_bytes e
  pub reloc : (slot : List ℕ) (c : Component) (i : ℕ) (r : Reloc) → Begins slot (run_of c) → slice_get c.relocs i ≡ Some r
      → slice_range slot (32 + 6 * length c.exports + 8 * i) (32 + 6 * length c.exports + 8 * i + 8) ≡ reloc_bytes r

-- ---- parts

-- a component's code or data
abbrev pub part_of : Component → Bool → List ℕ
part_of c init = if init then c.init else c.code

-- where it stands in the image
abbrev pub base_of : List Component → ℕ → Bool → ℕ
base_of set k init = if init then load_base (rooms_of set) k else code_base (rooms_of set) k

-- A byte of a component's part is the image's, with the value bits of the field that it lies in cleared. The part lies in program flash.
pub record PartsAreCleared : Type 0 where
  pub byte : (set : List Component) (pages : List (List ℕ)) (k : ℕ) (c : Component) (init : Bool) (o : ℕ) → AllByRecursion IsComponent set → IsPages set pages
      → slice_get set k ≡ Some c → o < length (part_of c init)
      → bit_and (slice_index (concat pages) (base_of set k init + o)) (bits_kept init c.relocs o) ≡ slice_index (part_of c init) o
  pub within : (set : List Component) (pages : List (List ℕ)) (k : ℕ) (c : Component) (init : Bool) → IsPages set pages → slice_get set k ≡ Some c
      → base_of set k init + length (part_of c init) ≤ 122880

-- ---- tables

-- A fresh entry's table slot can be filled: no run is read from it. Once it begins with the entry's run it keeps it, while other slots change.
pub record TablesAreFilled : Type 0 where
  pub none : (m : StoredRelease) (k : ℕ) (p : Placed) → IsStored m → slice_get m.placed k ≡ Some p → p.fresh ≡ true → HasNoRun m p.slot
  pub filled : (tables inbox : List (List ℕ)) (p : Placed) (rest : List ℕ) → p.slot < length tables
      → KeepsItsRun (slice_set tables p.slot (going_run tables inbox p ++ rest)) inbox p
  pub others : (tables inbox : List (List ℕ)) (p : Placed) (s : ℕ) (bytes : List ℕ) → p.slot ≢ s → KeepsItsRun tables inbox p
      → KeepsItsRun (slice_set tables s bytes) inbox p

-- ---- the incoming set

-- There is an incoming set exactly where nothing is missing and no package is bad, if what isn't fresh is held.
pub record ComingIsFaultless : Type 0 where
  pub faultless : (now : Chosen) (inbox : List (List ℕ)) (m : StoredRelease) → HasComing now inbox m → set_fault inbox m ≡ None
  pub whole : (now : Chosen) (inbox : List (List ℕ)) (m : StoredRelease)
      → AllByRecursion (λ p. (p.entry.length ≤ length (slice_index_or inbox p.slot [])) × AreBytes (slice_index_or inbox p.slot [])) m.placed
      → AllByRecursion (λ p. p.fresh ≡ false → is_some (held_component now p.entry) ≡ true) m.placed
      → set_fault inbox m ≡ None → HasComing now inbox m

-- ---- places

-- The slots of both kinds stand in one row of 32 places of 39 pages: inbox slot s is place s, and table slot s is place 16 + s.
pub record SlotsAreInOneRow : Type 0 where
  pub inbox : (ext : List (List ℕ)) (s : ℕ) → slot_from INBOX ext s ≡ slot_at ext s
  pub table : (ext : List (List ℕ)) (s : ℕ) → slot_from TABLES ext s ≡ slot_at ext (16 + s)
