-- A slot's bytes, and the page of it that is kept.
use Rattle.std.specs.Prelude.{◌≡◌, ◌<◌, ℕ, List, take}
use Rattle.flash_pages.specs.State.{State, Ext, page_at}
use Rattle.component_package.specs.declared.areas.TheConstants.{SLOT_PAGES}
use Rattle.component_package.specs.declared.part.Header.{Header}
use Rattle.component_package.specs.packages.Reading.{header_of, total_of}
use Rattle.component_package.specs.mote.Store.{page_of_slot, slot_at}
use Rattle.component_store.specs.declared.reader.SlotReader.{SlotReader}

-- the page that a reader keeps is the slot's, where it has read one
abbrev pub Keeps : State → SlotReader → Type 0
Keeps s r = r.page < SLOT_PAGES → r.bytes ≡ page_at s (Ext (page_of_slot r.slot r.page))

-- the first bytes of a slot
abbrev pub held_bytes : State → ℕ → ℕ → List ℕ
held_bytes s slot size = take size (slot_at s.ext slot)

-- the bytes that the header gives the slot's package
abbrev pub held_package : State → ℕ → Header → List ℕ
held_package s slot h = held_bytes s slot (total_of h)

-- the slot's package begins with this header, and the reader keeps a page of the slot
pub record IsUnder (s : State) (r : SlotReader) (h : Header) : Type 0 where
  pub keeps : Keeps s r
  pub header : h ≡ header_of (held_package s r.slot h)
