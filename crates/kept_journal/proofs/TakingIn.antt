-- A manifest that is taken in.
use Rattle.std.proofs.Common.{◌≡◌, ℕ, Bool, true, false, not, Some, List, refl, sym as flip, ap, ◌∙◌, subst, arith}
use Rattle.std.proofs.lemmas.Bool.{or_parts}
use Rattle.flash_pages.specs.State.{State, Place, Prog, Ext, ext_pages}
use Rattle.flash_pages.specs.Board.{View, Reads, Programs}
use Rattle.external_flash.specs.declared.Gate.TheVariants.{Man}
use Rattle.external_flash.specs.Gates.{gate_place, IsShut, opened}
use Rattle.kept_definitions.specs.Stored.{StoredRelease, Stores, IsStored, stored_bytes}
use Rattle.kept_definitions.specs.Sides.{Parts, is_on_b, chosen_side, other_side, is_pending}
use Rattle.component_package.specs.mote.Sides.{man}
use Rattle.kept_definitions.specs.Sound.{IsNext}
use Rattle.kept_definitions.specs.Machine.{Mote}
use Rattle.kept_definitions.specs.Headline.{StandsFor}
use Rattle.kept_laws.specs.Steps.{with_gate, with_other_side}
use Rattle.kept_laws.specs.Invariant.{ComesNext}
use Rattle.kept_laws.proofs.Steps.{opening_keeps}
use Rattle.kept_laws.proofs.Stands.{resting_steps_stand}
use Rattle.kept_laws.proofs.Slots.{slots_are_found}
use Rattle.kept_journal.specs.Steps.{parts, Stands, Step, Takes, Becomes, any_mote, CanTake, CanWrite, stays, abandons, takes_in, abandoned, taken_in, with_side, side_pages, manifest_pages}
use Rattle.kept_journal.proofs.Bridge.{parts_opened}
use Rattle.kept_journal.proofs.Takes.{takes_none, takes_read, takes_gate, takes_takes, becomes}
use Rattle.kept_journal.proofs.Writing.{other_is}

-- pages of the steps are among those of the whole
abandon_less : (p : Parts) (place : Place) → manifest_pages p place ≡ false → ext_pages 1 4 place ≡ false
abandon_less p (Prog page) barred = refl
abandon_less p (Ext page) barred = (or_parts _ _ barred).0

side_less : (p : Parts) (on_b : Bool) (place : Place) → on_b ≡ not (is_on_b p) → manifest_pages p place ≡ false → side_pages on_b place ≡ false
side_less p on_b (Prog page) is barred = refl
side_less p on_b (Ext page) is barred = ap (λ (b : Bool). side_pages b (Ext page)) is ∙ (or_parts _ _ barred).1

-- a release that comes next is next on the other side
is_next : (current side : List ℕ) (c m : StoredRelease) → Stores current c → ComesNext c (Some m) → side ≡ stored_bytes m → IsNext current side
unfolding IsNext
is_next current side c m stores (r, release, above, is) bytes =
    (c, r, stores, release, above, record { stored = slots_are_found.stored c r stores.stored release; bytes = bytes ∙ ap stored_bytes is })

is_stored : (c m : StoredRelease) → IsStored c → ComesNext c (Some m) → IsStored m
is_stored c m stored (r, release, above, is) = subst IsStored (flip is) (slots_are_found.stored c r stored release)

-- the other side is what was written
other_bytes : (p : Parts) (bytes : List ℕ) → other_side (with_other_side bytes p) ≡ bytes
other_bytes p bytes = grind arith

module _ (a b : View) (s : State) (m : StoredRelease) (told : a.state ≡ Some s) (abandoning : Takes (Step any_mote (ext_pages 1 4) s) (ext_pages 1 4) 4 a b) where
  abbrev pub may : Place → Bool
  may = manifest_pages (parts s)

  pub four : Takes (Step (CanTake m) may s) may 4 a b
  four = takes_takes (CanTake m) any_mote may (ext_pages 1 4) 0 4 a a b s s (takes_none (CanTake m) may a s told) told abandoning (abandon_less (parts s)) (λ u stands is. (u, stands, tt))

  module _ (c : View) (read : Reads b c) where
    pub four_read : Takes (Step (CanTake m) may s) may 4 a c
    four_read = takes_read (Step (CanTake m) may s) may 4 a b c four read

    module _ (d : View) (on_b : Bool) (shut : Becomes (abandoned (parts s)) any_mote abandons s b) (on : on_b ≡ not (is_on_b (parts shut.end)))
        (writing : Takes (Step (CanWrite on_b (parts shut.end)) (side_pages on_b) shut.end) (side_pages on_b) 5 c d) where
      same_side : is_on_b (parts shut.end) ≡ is_on_b (parts s)
      same_side = ap is_on_b shut.parts_are

      can_write : (u : Mote) → Stands s u → CanTake m u → CanWrite on_b (parts shut.end) (abandons u)
      can_write u stands can = (can.0, ap (λ (p : Parts). p.gates man) shut.parts_are, on)

      pub nine : Takes (Step (CanTake m) may s) may 9 a d
      nine = takes_takes (CanTake m) (CanWrite on_b (parts shut.end)) may (side_pages on_b) 4 5 a c d s shut.end four_read (read.state ∙ shut.told) writing
          (λ place barred. side_less (parts s) on_b place (on ∙ ap not same_side) barred)
          (λ u stands can. (abandons u, shut.stands u stands tt, can_write u stands can))

      module _ (e : View) (written : Becomes (with_side on_b (stored_bytes m) (parts shut.end)) (CanWrite on_b (parts shut.end)) stays shut.end d) (opens : Programs (IsShut Man) (gate_place Man) d e) where
        is_written : parts written.end ≡ with_other_side (stored_bytes m) (abandoned (parts s))
        is_written = written.parts_are ∙ other_is on_b (stored_bytes m) (parts shut.end) on ∙ ap (λ (p : Parts). with_other_side (stored_bytes m) p) shut.parts_are

        stands_written : (u : Mote) → Stands s u → CanTake m u → Stands written.end (abandons u)
        stands_written u stands can = written.stands (abandons u) (shut.stands u stands tt) (can_write u stands can)

        calm : (u : Mote) → Stands s u → CanTake m u → is_pending (parts written.end) ≡ false
        calm u stands can = flip (stands_written u stands can).mote.standing ∙ can.0

        bytes_are : other_side (parts written.end) ≡ stored_bytes m
        bytes_are = ap other_side is_written ∙ other_bytes (abandoned (parts s)) (stored_bytes m)

        next : (u : Mote) → Stands s u → CanTake m u → IsNext (chosen_side (parts written.end)) (other_side (parts written.end))
        next u stands can = is_next (chosen_side (parts written.end)) (other_side (parts written.end)) u.current.release m (stands_written u stands can).mote.current.release can.1 bytes_are

        pub ten : Takes (Step (CanTake m) may s) may 10 a e
        ten = takes_gate (CanTake m) may 9 (IsShut Man) Man a d e s written.end nine written.told refl opens
            (λ b need u stands can sound. opening_keeps.manifest (parts written.end) b sound (calm u stands can) need (next u stands can))

        pub is_taken_in : e.state ≡ Some (opened Man written.end) → Becomes (taken_in (stored_bytes m) (parts s)) (CanTake m) (takes_in m) s e
        is_taken_in told_e = becomes (CanTake m) may 10 (takes_in m) (taken_in (stored_bytes m) (parts s)) s (opened Man written.end) a e ten told_e
            (parts_opened written.end Man (d.sizes written.end written.told) ∙ ap (λ (p : Parts). with_gate man true p) is_written)
            (λ u stands can sound. subst (λ (p : Parts). StandsFor (with_gate man true p) (takes_in m u)) is_written
            (resting_steps_stand.incoming (parts written.end) (abandons u) m (stands_written u stands can).mote (calm u stands can)
            (record { stored = is_stored u.current.release m stands.mote.current.release.stored can.1; bytes = bytes_are })))
