-- The inbox of a board holds bytes and has whole slots, so a sound board stands for a mote of which the laws on motes speak.
use Rattle.std.proofs.Common.{◌≡◌, ℕ, ◌+◌, ◌*◌, ◌<◌, inl, inr, List, [], length, take, drop, get_or, sym, ap, ◌∙◌, subst, arith}
use Rattle.std.proofs.lemmas.Bool.{cases_lt}
use Rattle.std.proofs.lemmas.List.{get_or_past}
use Rattle.std.proofs.lemmas.List.Elements.{All-take, All-drop}
use Rattle.std.proofs.lemmas.List.FromFn.{length-map-range_with_len}
use Rattle.avr_reloc.specs.Field.{AreBytes}
use Rattle.flash_pages.specs.State.{State, IsState}
use Rattle.component_package.specs.mote.Store.{slot_at}
use Rattle.component_package.proofs.StoredLemmas.{bytes_joined}
use Rattle.component_store.proofs.HeldLemmas.{length-slot}
use Rattle.kept_definitions.specs.Kept.{inbox_of, slot_from}
use Rattle.kept_definitions.specs.Machine.{Mote}
use Rattle.mote_laws.specs.Sets.{AreByteSlots}
use Rattle.kept_laws.specs.Invariant.{AreSlots, IsMote}
use Rattle.kept_laws.proofs.Invariant.{sound_is_a_mote}
use Rattle.kept_laws.proofs.Store.{slots_are_in_one_row}
use Rattle.kept_store.proofs.SlotBytes.{inbox_is}
use Rattle.kept_journal.specs.Steps.{parts, Stands}

-- there are 16 slots
pub length-inbox : (ext : List (List ℕ)) → length (inbox_of ext) ≡ 16
unfolding inbox_of
length-inbox ext = length-map-range_with_len (slot_from 786 ext) 0 16

-- slot k is place k of the row
pub inbox_place : (ext : List (List ℕ)) (k : ℕ) → k < 16 → get_or (inbox_of ext) k [] ≡ slot_at ext k
inbox_place ext k low = inbox_is ext k low ∙ slots_are_in_one_row.inbox ext k

pub inbox_bytes : (s : State) → IsState s → AreByteSlots (inbox_of s.ext)
inbox_bytes s is k =
    elim (cases_lt k 16) [
      | inl low ↦ subst AreBytes (sym (inbox_place s.ext k low)) (bytes_joined (take 39 (drop (786 + 39 * k) s.ext)) (All-take AreBytes 39 (drop (786 + 39 * k) s.ext) (All-drop AreBytes (786 + 39 * k) s.ext (λ j d lt. (is.ext_pages j d lt).1))))
      | inr past ↦ λ i. subst (λ (b : List ℕ). get_or b i 0 < 256) (sym (get_or_past (inbox_of s.ext) k [] (omega (arith, past, length-inbox s.ext)))) (omega arith)
    ]

pub inbox_sizes : (s : State) → IsState s → AreSlots (inbox_of s.ext)
inbox_sizes s is k low = ap length (inbox_place s.ext k low) ∙ length-slot s is k (omega arith)

-- what a sound board stands for is such a mote
pub mote_is : (s : State) (t : Mote) → IsState s → Stands s t → IsMote t
mote_is s t is stands = sound_is_a_mote (parts s) t stands.sound stands.mote (inbox_bytes s is) (inbox_sizes s is)
