-- The end of an installation.
use Rattle.std.proofs.Common.{◌≡◌, ℕ, Bool, true, false, cond, List, Some, refl, sym as flip, ap, ap₂, ◌∙◌, subst, arith}
use Rattle.std.proofs.lemmas.Bool.Decides.{nat_tests}
use Rattle.flash_pages.specs.State.{State, Place, Prog, Ext, ext_pages}
use Rattle.flash_pages.specs.Board.{View, Reads, Programs}
use Rattle.external_flash.specs.declared.Gate.{Gate}
use Rattle.external_flash.specs.Gates.{gate_page, gate_place, IsOpen, closed}
use Rattle.kept_definitions.specs.Stored.{Stores}
use Rattle.kept_definitions.specs.Sides.{Parts, is_on_b, is_pending, chosen_side}
use Rattle.component_package.specs.mote.Sides.{man, sym, rel, img, sel}
use Rattle.kept_definitions.specs.Sound.{IsSound}
use Rattle.kept_definitions.specs.Machine.{Mote}
use Rattle.kept_definitions.specs.Headline.{StandsFor}
use Rattle.kept_laws.specs.Steps.{with_gate, chosen_go, Keeps}
use Rattle.mote_laws.specs.Stands.{IsOther}
use Rattle.kept_laws.proofs.Steps.{finishing_keeps}
use Rattle.kept_laws.proofs.Stands.{standing_steps_stand}
use Rattle.kept_journal.specs.Steps.{parts, Stands, Step, Takes, Becomes, any_mote, Pends, IsCopied, stays, abandons, boots, abandoned, finished, one_page}
use Rattle.kept_journal.proofs.Bridge.{parts_closed}
use Rattle.kept_journal.proofs.Takes.{takes_none, takes_read, takes_gate, takes_takes, becomes}

-- Sel stands at the chosen side, and nothing comes in
abbrev pub cleared : Parts → Parts
cleared p = abandoned (with_gate sel (is_on_b p) p)

-- while a commit stands the same side is chosen
same_side : (p : Parts) → is_pending p ≡ true → is_on_b (cleared p) ≡ is_on_b p
same_side p pending = grind arith

same_chosen : (p : Parts) → is_pending p ≡ true → chosen_side (cleared p) ≡ chosen_side p
same_chosen p pending = ap (λ (b : Bool). cond b p.side_b p.side_a) (same_side p pending)

same_go : (p : Parts) → is_pending p ≡ true → chosen_go (cleared p) ≡ chosen_go p
same_go p pending = ap (λ (b : Bool). cond b 6 5) (same_side p pending)

-- the Go gate may then be closed
closes_go : (p : Parts) (b : Bool) → IsSound (cleared p) → is_pending p ≡ true → IsCopied p → Keeps (cleared p) (with_gate (chosen_go p) b (cleared p))
closes_go p b sound pending copied =
    subst (λ (n : ℕ). Keeps (cleared p) (with_gate n b (cleared p))) (same_go p pending)
    (finishing_keeps (cleared p) b sound pending (flip (same_side p pending)) refl refl refl refl copied.prog
    (λ m stores. copied.runs m (subst (λ (side : List ℕ). Stores side m) (same_chosen p pending) stores)))

other_1 : IsOther man
other_1 = ((λ e. absurd (omega (arith, e))), (λ e. absurd (omega (arith, e))))

other_2 : IsOther sym
other_2 = ((λ e. absurd (omega (arith, e))), (λ e. absurd (omega (arith, e))))

other_3 : IsOther rel
other_3 = ((λ e. absurd (omega (arith, e))), (λ e. absurd (omega (arith, e))))

other_4 : IsOther img
other_4 = ((λ e. absurd (omega (arith, e))), (λ e. absurd (omega (arith, e))))

other_7 : IsOther sel
other_7 = ((λ e. absurd (omega (arith, e))), (λ e. absurd (omega (arith, e))))

-- and all the while the mote stays
cleared_stands : (p : Parts) (t : Mote) → StandsFor p t → is_pending p ≡ true → StandsFor (cleared p) t
cleared_stands p t stands pending =
    let gate = standing_steps_stand.gate in
    let one = gate p t sel (is_on_b p) stands pending other_7 in
    let p1 : Parts = with_gate sel (is_on_b p) p in
    let two = gate p1 t img false one pending other_4 in
    let p2 : Parts = with_gate img false p1 in
    let three = gate p2 t rel false two pending other_3 in
    let p3 : Parts = with_gate rel false p2 in
    let four = gate p3 t sym false three pending other_2 in
    gate (with_gate sym false p3) t man false four pending other_1

finished_stands : (p : Parts) (t : Mote) → IsSound (cleared p) → StandsFor p t → is_pending p ≡ true → IsCopied p → StandsFor (finished p) (boots t)
finished_stands p t sound stands pending copied =
    subst (λ (n : ℕ). StandsFor (with_gate n false (cleared p)) (boots t)) (same_go p pending)
    (standing_steps_stand.finished (cleared p) t sound (cleared_stands p t stands pending) pending (flip (same_side p pending)) refl refl refl refl copied.prog
    (copied.runs t.current.release stands.current.release))

-- pages of the steps are among those of the whole
pub select_less : (place : Place) → ext_pages 1 7 place ≡ false → one_page sel place ≡ false
select_less (Prog page) barred = refl
select_less (Ext page) barred = grind (arith, nat_tests)

pub abandon_less : (place : Place) → ext_pages 1 7 place ≡ false → ext_pages 1 4 place ≡ false
abandon_less (Prog page) barred = refl
abandon_less (Ext page) barred = grind (arith, nat_tests)

-- the chosen side's Go gate is among them
go_allowed : (gate : Gate) (on_b : Bool) → gate_page gate ≡ cond on_b 6 5 → ext_pages 1 7 (gate_place gate) ≡ true
go_allowed gate true is = grind (arith, nat_tests)
go_allowed gate false is = grind (arith, nat_tests)

module _ (a b : View) (s : State) (told : a.state ≡ Some s) (read : Reads a b) where
  abbrev meant : Mote → Type 0
  meant t = Pends t × IsCopied (parts s)

  pub zero : Takes (Step meant (ext_pages 1 7) s) (ext_pages 1 7) 0 a b
  zero = takes_read (Step meant (ext_pages 1 7) s) (ext_pages 1 7) 0 a a b (takes_none meant (ext_pages 1 7) a s told) read

  module _ (c : View) (selecting : Takes (Step Pends (one_page sel) s) (one_page sel) 1 b c) where
    pub one : Takes (Step meant (ext_pages 1 7) s) (ext_pages 1 7) 1 a c
    one = takes_takes meant Pends (ext_pages 1 7) (one_page sel) 0 1 a b c s s zero (read.state ∙ told) selecting select_less (λ u stands is. (u, stands, is.0))

    module _ (d : View) (on_b : Bool) (chosen : Becomes (with_gate sel on_b (parts s)) Pends stays s c) (abandoning : Takes (Step any_mote (ext_pages 1 4) chosen.end) (ext_pages 1 4) 4 c d) where
      pub five : Takes (Step meant (ext_pages 1 7) s) (ext_pages 1 7) 5 a d
      five = takes_takes meant any_mote (ext_pages 1 7) (ext_pages 1 4) 1 4 a c d s chosen.end one chosen.told abandoning abandon_less (λ u stands is. (u, chosen.stands u stands is.0, tt))

      module _ (e : View) (gate : Gate) (on : on_b ≡ is_on_b (parts s)) (page : gate_page gate ≡ cond on_b 6 5) (shut : Becomes (abandoned (parts chosen.end)) any_mote abandons chosen.end d) (closes : Programs (IsOpen gate) (gate_place gate) d e) where
        is_cleared : parts shut.end ≡ cleared (parts s)
        is_cleared = shut.parts_are ∙ ap abandoned (chosen.parts_are ∙ ap (λ (x : Bool). with_gate sel x (parts s)) on)

        is_go : gate_page gate ≡ chosen_go (parts s)
        is_go = page ∙ ap (λ (x : Bool). cond x 6 5) on

        pub six : Takes (Step meant (ext_pages 1 7) s) (ext_pages 1 7) 6 a e
        six = takes_gate meant (ext_pages 1 7) 5 (IsOpen gate) gate a d e s shut.end five shut.told (go_allowed gate on_b page) closes (λ b need u stands m sound.
            subst (λ (n : ℕ). Keeps (parts shut.end) (with_gate n b (parts shut.end))) (flip is_go)
            (subst (λ (q : Parts). Keeps q (with_gate (chosen_go (parts s)) b q)) (flip is_cleared)
            (closes_go (parts s) b (subst IsSound is_cleared sound) (flip stands.mote.standing ∙ m.0) m.1)))

        sound_cleared : (u : Mote) → Stands s u → meant u → IsSound (cleared (parts s))
        sound_cleared u stands m = subst IsSound is_cleared (shut.stands u (chosen.stands u stands m.0) tt).sound

        pub is_finished : e.state ≡ Some (closed gate shut.end) → Becomes (finished (parts s)) meant boots s e
        is_finished told_e = becomes meant (ext_pages 1 7) 6 boots (finished (parts s)) s (closed gate shut.end) a e six told_e
            (parts_closed shut.end gate (d.sizes shut.end shut.told) ∙ ap₂ (λ (n : ℕ) (q : Parts). with_gate n false q) is_go is_cleared)
            (λ u stands m sound. finished_stands (parts s) u (sound_cleared u stands m) stands.mote (flip stands.mote.standing ∙ m.0) m.1)
