-- A whole session.
use Rattle.std.proofs.Common.{◌≡◌, Bool, cond, eqb, ℕ, ◌+◌, ◌≤◌, List, [], ◌∷◌, ◌++◌, length, Some, None, refl, sym, ap, ◌∙◌, subst, arith}
use Rattle.std.proofs.lemmas.Option.{same_Some}
use Rattle.std.proofs.lemmas.List.{append-nil, length-append}
use Rattle.std.proofs.lemmas.List.Sums.{sum_by-cons}
use Rattle.flash_pages.specs.State.{State, SendsPart}
use Rattle.flash_pages.specs.Board.{View, UsesLine, Rose}
use Rattle.flash_pages.specs.Moments.{LeavesOnly}
use Rattle.flash_pages.proofs.Runs.{weaker, at_end}
use Rattle.component_package.specs.declared.answer.Answer.{Answer}
use Rattle.component_package.specs.mote.Lines.{line_of}
use Rattle.component_package.specs.mote.Frames.{Frame, has_end, is_too_long}
use Rattle.kept_definitions.specs.Headline.{IsHeadline}
use Rattle.kept_definitions.specs.Machine.{Mote, step, mote_from}
use Rattle.component_package.specs.mote.Machine.{boot_frame}
use Rattle.kept_core.specs.Sending.{SendsBut}
use Rattle.kept_sessions.specs.Kept.{Works, Leaves}
use Rattle.kept_sessions.specs.Sessions.{shown, LeftSince, IsBetween}
use Rattle.kept_sessions.specs.Turns.{programs_of, all_programs_of, frames_of, IsSession}
use Rattle.kept_sessions.proofs.Kept.{frames_leave}
use Rattle.kept_sessions.proofs.Sessions.{between_begins, frame_keeps, frame_served, works_and_sends, headline}
use Rattle.kept_sessions.proofs.Turns.{session_ends, session_goes, ends_more}
use Rattle.kept_journal.specs.Steps.{Stands}
use Rattle.kept_core.specs.Serving.{Serves, LeavesWork, DoesWork}
use Rattle.kept_core.specs.Running.{status_of, EndsWell, Ends, TellsFaults, Goes, IsCalm, TakesTurn, TurnOf, NoFault, HasHeadline}
use Rattle.kept_core.proofs.Turns.{stands_still}

-- a headline under a stronger premise, with what its session read and programmed
over : (s : Mote) (e x : State) (l : List ℕ) (calm : Type 0) (taken left : List ℕ) (frames : List Frame) (rest : List ℕ) (status : ℕ) (old new : View) → new.state ≡ Some x → new.left ≡ Some left → l ≡ taken ++ left
    → (NoFault old new → calm) → (h : IsHeadline s (shown e) (shown x) (LeftSince old new) calm taken) → h.frames ≡ frames → h.rest ≡ rest
    → (NoFault old new → EndsWell (length frames) frames rest left status) → new.all_programs ≤ old.all_programs + all_programs_of (boot_frame ∷ frames) → HasHeadline s e l status old new
over s e x l calm taken left frames rest status old new told told_left took gives h frames_are rest_is ends programs = record {
  exit = x;
  taken = taken;
  left = left;
  told = told;
  told_left = told_left;
  took = took;
  holds = record {
    frames = h.frames;
    rest = h.rest;
    read = h.read;
    few = h.few;
    budget = h.budget;
    kept = h.kept;
    appends = h.appends;
    last = h.last;
    owed = h.owed;
    lines = h.lines;
    exact = λ c. h.exact (gives c);
  };
  ends = λ none. subst (λ (fs : List Frame). EndsWell (length fs) fs h.rest left status) (sym frames_are) (subst (λ (r : List ℕ). EndsWell (length frames) frames r left status) (sym rest_is) (ends none));
  programs = subst (λ (fs : List Frame). new.all_programs ≤ old.all_programs + all_programs_of (boot_frame ∷ fs)) (sym frames_are) programs;
}

-- ---- the boot

module _ (old : View) (s : Mote) (e : State) (l : List ℕ) (told : old.state ≡ Some e) (stands : Stands e s) where
  abbrev B : State → Type 0
  B x = Leaves s boot_frame (shown e) (shown x)

  begun : IsBetween s e [] e old old
  begun = between_begins s e old told stands.sound stands.mote

  -- the session ended with its boot
  boot_ends : (status : ℕ) (new : View) (x : State) (owed : List ℕ) → LeavesOnly B (programs_of boot_frame) old new → new.state ≡ Some x → new.left ≡ Some l
      → e.sent ++ line_of (step s boot_frame).answer ≡ x.sent ++ owed → (NoFault old new → ⊥) → HasHeadline s e l status old new
  boot_ends status new x owed run told_new told_left lines fault =
      let h = headline s e x old new (NoFault old new) [] [] [] owed (frame_keeps s e [] boot_frame e old old new (programs_of boot_frame) begun run) told_new
      (record { whole = refl; each = tt; rest_partial = tt; rest_after_end = λ ends. refl }) (omega arith) (λ all. omega arith)
      (ap (λ (b : List ℕ). e.sent ++ b) (append-nil (line_of (step s boot_frame).answer)) ∙ lines) (λ calm. absurd (fault calm)) in
      over s e x l (NoFault old new) [] l [] [] status old new told_new told_left refl (λ none. none) h.0 h.1 h.2 (λ none. absurd (fault none))
      (omega (arith, run.at_most, sum_by-cons programs_of boot_frame []))

  -- a fault in its work
  pub boot_fault : (status : ℕ) (new : View) → LeavesWork boot_frame old new → new.left ≡ Some l → (NoFault old new → ⊥) → HasHeadline s e l status old new
  boot_fault status new works told_left fault =
      let run = weaker (Serves s boot_frame e) (λ x. Works s boot_frame (shown e) (shown x)) (programs_of boot_frame) (programs_of boot_frame) old new (omega arith) (λ x serves. serves.works) (works e s told stands) in
      boot_ends status new run.end (line_of (step s boot_frame).answer)
      (weaker (λ x. Works s boot_frame (shown e) (shown x)) B (programs_of boot_frame) (programs_of boot_frame) old new (omega arith) (λ x. frames_leave.works s boot_frame (shown e) (shown x)) run)
      run.told told_left (ap (λ (b : List ℕ). b ++ line_of (step s boot_frame).answer) (sym run.ends.sent)) fault

  -- its line was sent, but for what is owed
  module _ (mid new : View) (a : Answer) (works : LeavesWork boot_frame old mid) (does : DoesWork boot_frame old mid a) (told_left : new.left ≡ Some l) (sends_line : UsesLine (SendsPart (line_of a)) mid new) where
    boot_run : (x : State) → new.state ≡ Some x → LeavesOnly B (programs_of boot_frame) old new
    boot_run x told_x =
        let run = weaker (Serves s boot_frame e) (λ x. Works s boot_frame (shown e) (shown x)) (programs_of boot_frame) (programs_of boot_frame) old mid (omega arith) (λ x serves. serves.works) (works e s told stands) in
        let d = does e s told stands in
        works_and_sends s boot_frame e d.end x (programs_of boot_frame) old mid new run d.told d.mote (subst (λ (b : Answer). UsesLine (SendsPart (line_of b)) mid new) d.answer sends_line) told_x

    boot_lines : (y x : State) (owed : List ℕ) → mid.state ≡ Some y → SendsBut owed (line_of a) y x → e.sent ++ line_of (step s boot_frame).answer ≡ x.sent ++ owed
    boot_lines y x owed told_y sent =
        let run = weaker (Serves s boot_frame e) (λ x. Works s boot_frame (shown e) (shown x)) (programs_of boot_frame) (programs_of boot_frame) old mid (omega arith) (λ x serves. serves.works) (works e s told stands) in
        let w = at_end (λ x. Works s boot_frame (shown e) (shown x)) (programs_of boot_frame) old mid y run told_y in
        let d = does e s told stands in
        ap (λ (b : Answer). e.sent ++ line_of b) (sym d.answer) ∙ ap (λ (b : List ℕ). b ++ line_of a) (sym w.sent) ∙ sent.sent

    pub boot_cut : (status : ℕ) → ((y : State) → mid.state ≡ Some y → (owed : List ℕ) × (x : State) × (new.state ≡ Some x) × SendsBut owed (line_of a) y x) → (NoFault old new → ⊥) → HasHeadline s e l status old new
    boot_cut status sent fault =
        let d = does e s told stands in
        let r = sent d.end d.told in
        let run = boot_run r.1 r.2 in
        boot_ends status new r.1 r.0 run r.2 told_left (boot_lines d.end r.1 r.0 d.told r.3) fault

    pub boot_goes : ((y : State) → mid.state ≡ Some y → (owed : List ℕ) × (x : State) × (new.state ≡ Some x) × SendsBut owed (line_of a) y x × (owed ≡ []))
        → (frames : List Frame) × (z : State) × (left : List ℕ) × (length frames ≡ 0) × IsSession s e l frames z left old new
    boot_goes sent =
        let d = does e s told stands in
        let r = sent d.end d.told in
        let run = boot_run r.1 r.2 in
        let stands_now = stands_still d.end r.1 (step s boot_frame).mote r.3.prog r.3.ext d.mote in
        let whole : r.1.sent ≡ e.sent ++ line_of (step s boot_frame).answer =
        sym (append-nil r.1.sent) ∙ ap (λ (b : List ℕ). r.1.sent ++ b) (sym r.4) ∙ sym (boot_lines d.end r.1 r.0 d.told r.3) in (
          [],
          r.1,
          l,
          refl,
          record {
            few = omega arith;
            told_left = told_left;
            read = refl;
            each = tt;
            open_end = refl;
            between = frame_served s e [] boot_frame e r.1 old old new (programs_of boot_frame) begun run r.2 stands_now whole;
            programs = omega (arith, run.at_most, sum_by-cons programs_of boot_frame []);
          },
        )

-- ---- the turns

-- a session, and a turn that goes on
pub session_on : (s : Mote) (e : State) (l : List ℕ) (frames : List Frame) (z : State) (left : List ℕ) (served served' : ℕ) (old now new : View) → length frames ≡ served → served' ≡ served + 1
    → IsSession s e l frames z left old now → TakesTurn served None now new
    → (frames : List Frame) × (z : State) × (left : List ℕ) × (length frames ≡ served') × IsSession s e l frames z left old new
session_on s e l frames z left served served' old now new len next session turns =
    let serving = session.between.serving in
    let turn : TurnOf (length frames) None z left (mote_from s (boot_frame ∷ frames)) now new =
    subst (λ (n : ℕ). TurnOf n None z left (mote_from s (boot_frame ∷ frames)) now new) (sym len)
    (turns z left (mote_from s (boot_frame ∷ frames)) session.between.told session.told_left (record { sound = serving.sound; mote = serving.stands })) in
    let on = session_goes s e l frames z left (Goes None) (IsCalm None) (Ends (length frames) None) old now new session turn refl in
    (frames ++ on.0 ∷ [], turn.end, turn.left, omega (arith, length-append frames (on.0 ∷ [])), on.1)

-- the status by all frames of the session
pub ends_all : (status : ℕ) (frames more : List Frame) (rest left : List ℕ) → has_end (frames ++ more) ≡ has_end more → EndsWell (length frames + length more) more rest left status
    → EndsWell (length (frames ++ more)) (frames ++ more) rest left status
ends_all status frames more rest left same well = record {
  status_is = well.status_is ∙ ap (λ (n : ℕ). status_of n more rest) (sym (length-append frames more))
      ∙ ap (λ (b : Bool). cond b 0 (cond (eqb (length rest) 0) 0 (cond (eqb (length (frames ++ more)) 1000000) 7 (cond (is_too_long rest) 3 2)))) (sym same);
  input = λ zero none. well.input zero (sym same ∙ none);
  cut = well.cut;
  budget = well.budget;
}

-- a session, and a turn that ends it
pub session_over : (s : Mote) (e : State) (l : List ℕ) (frames : List Frame) (z : State) (left : List ℕ) (served status : ℕ) (old now new : View) → length frames ≡ served
    → now.flash_faults ≡ old.flash_faults → now.line_faults ≡ old.line_faults → TellsFaults status now new
    → IsSession s e l frames z left old now → TakesTurn served (Some status) now new → HasHeadline s e l status old new
session_over s e l frames z left served status old now new len flash line faults session turns =
    let serving = session.between.serving in
    let turn : TurnOf (length frames) (Some status) z left (mote_from s (boot_frame ∷ frames)) now new =
    subst (λ (n : ℕ). TurnOf n (Some status) z left (mote_from s (boot_frame ∷ frames)) now new) (sym len)
    (turns z left (mote_from s (boot_frame ∷ frames)) session.between.told session.told_left (record { sound = serving.sound; mote = serving.stands })) in
    let ended = session_ends s e l frames z left (Goes (Some status)) (IsCalm (Some status)) (Ends (length frames) (Some status)) old now new session turn in
    let same = ends_more s e l frames z left (Goes (Some status)) (IsCalm (Some status)) (Ends (length frames) (Some status)) old now new session turn in
    over s e turn.end l (IsCalm (Some status)) ended.taken turn.left (frames ++ frames_of turn.frame) turn.rest status old new turn.told turn.told_left ended.took calm ended.holds ended.frames_are ended.rest_is
    (λ none. ends_all status frames (frames_of turn.frame) turn.rest turn.left same (turn.ended status refl (calm none))) ended.programs
  where
    calm : NoFault old new → IsCalm (Some status)
    calm none = record {
      flash = λ four. none.flash (subst (λ (n : ℕ). Rose n new.flash_faults) flash (faults.flash (same_Some status 4 four)));
      line = λ five. none.line (subst (λ (n : ℕ). Rose n new.line_faults) line (faults.line (same_Some status 5 five)));
    }
