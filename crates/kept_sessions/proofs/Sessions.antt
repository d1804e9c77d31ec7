-- A session, frame by frame, on a board that tells its state.
use Rattle.std.proofs.Common.{◌≡◌, ⊎_elim, false, ℕ, ◌+◌, ◌≤◌, List, [], ◌∷◌, ◌++◌, length, take, drop, Some, refl, sym, ap, ◌∙◌, subst, arith}
use Rattle.std.proofs.lemmas.List.{append-nil, take-append-drop}
use Rattle.flash_pages.specs.State.{State, SendsPart}
use Rattle.flash_pages.specs.Board.{View, Elapses, UsesLine}
use Rattle.flash_pages.specs.Moments.{LeavesOnly}
use Rattle.flash_pages.proofs.Runs.{follows, weaker, at_end, sends}
use Rattle.kept_definitions.specs.Sound.{IsSound}
use Rattle.component_package.specs.mote.Lines.{line_of}
use Rattle.component_package.specs.mote.Frames.{Frame, Frames}
use Rattle.component_package.specs.mote.Headline.{Shown}
use Rattle.kept_definitions.specs.Headline.{shown_parts, StandsFor, IsKept, IsHeadline}
use Rattle.kept_definitions.specs.Machine.{Mote, step, mote_from, session_lines, session_mote, session_commits}
use Rattle.component_package.specs.mote.Machine.{boot_frame}
use Rattle.kept_laws.specs.Steps.{Keeps}
use Rattle.kept_sessions.specs.Kept.{Works, Leaves}
use Rattle.kept_sessions.specs.Sessions.{shown, LeftSince, AllKept, IsBetween}
use Rattle.kept_sessions.proofs.Kept.{frames_leave, frames_are_kept}

-- before the first frame
pub between_begins : (s : Mote) (e : State) (old : View) → old.state ≡ Some e → IsSound (shown_parts (shown e)) → StandsFor (shown_parts (shown e)) s → IsBetween s e [] e old old
between_begins s e old told sound stands =
    let serving = frames_are_kept.begins s (shown e) sound stands in
    record {
      told = told;
      serving = serving;
      all = record {
        later = omega arith;
        kept = λ x sent left is. frames_are_kept.entry s (shown e) (shown x) sent serving (ap shown (old.only_now e x told left)) is;
        appends = λ x left. ([], ap (λ (z : State). z.sent) (old.only_now e x told left) ∙ sym (append-nil e.sent));
      };
    }

-- a call that changes nothing, as a receive
pub between_receives : (s : Mote) (e : State) (served : List Frame) (z : State) (old mid new : View) → IsBetween s e served z old mid → Elapses mid new (λ z x. x ≡ z) → new.state ≡ mid.state
    → IsBetween s e served z old new
between_receives s e served z old mid new between time same = record {
  told = same ∙ between.told;
  serving = between.serving;
  all = record {
    later = omega (arith, between.all.later, time.later);
    kept = λ x sent left. between.all.kept x sent (was x left);
    appends = λ x left. between.all.appends x (was x left);
  };
}
  where
    was : (x : State) → new.left_since old.moment x → mid.left_since old.moment x
    was x left = ⊎_elim (λ before. before)
        (λ here. subst (mid.left_since old.moment) (sym here) (mid.present z old.moment between.told between.all.later))
        (time.nothing_else z x old.moment between.told between.all.later left)

-- a frame, whether it was served or a fault came
pub frame_keeps : (s : Mote) (e : State) (served : List Frame) (f : Frame) (z : State) (old mid new : View) (most : ℕ) → IsBetween s e served z old mid
    → LeavesOnly (λ x. Leaves (mote_from s served) f (shown z) (shown x)) most mid new → AllKept s e (served ++ f ∷ []) old new
frame_keeps s e served f z old mid new most between run = record {
  later = omega (arith, between.all.later, run.later);
  kept = λ x sent left is. ⊎_elim
      (λ was. frames_are_kept.more s served (f ∷ []) (shown x) sent (between.all.kept x sent was is))
      (λ now. frames_are_kept.frame s (shown e) (shown z) served f (shown x) sent between.serving now is)
      (run.before x old.moment between.all.later left);
  appends = λ x left. ⊎_elim
      (between.all.appends x)
      (frames_are_kept.appends s (shown e) (shown z) served f (shown x) between.serving)
      (run.before x old.moment between.all.later left);
}

-- a frame whose whole line was sent
pub frame_served : (s : Mote) (e : State) (served : List Frame) (f : Frame) (z x : State) (old mid new : View) (most : ℕ) → IsBetween s e served z old mid
    → LeavesOnly (λ x. Leaves (mote_from s served) f (shown z) (shown x)) most mid new → new.state ≡ Some x
    → StandsFor (shown_parts (shown x)) (step (mote_from s served) f).mote → x.sent ≡ z.sent ++ line_of (step (mote_from s served) f).answer
    → IsBetween s e (served ++ f ∷ []) x old new
frame_served s e served f z x old mid new most between run told stands sent = record {
  told = told;
  serving = frames_are_kept.next s (shown e) (shown z) served f (shown x) between.serving (at_end (λ x. Leaves (mote_from s served) f (shown z) (shown x)) most mid new x run told).sound stands sent;
  all = frame_keeps s e served f z old mid new most between run;
}

-- what a call that keeps the choice may leave, of a state of this mote
abbrev pub LeavesKept : Mote → State → State → Type 0
LeavesKept t w x = Keeps (shown_parts (shown w)) (shown_parts (shown x)) × (t.standing ≡ false → x.prog ≡ w.prog) × (x.sent ≡ w.sent)

-- work, and then such a call
pub work_then : (t : Mote) (f : Frame) (z w : State) (m n : ℕ) (old mid new : View) → LeavesOnly (λ x. Works t f (shown z) (shown x)) m old mid → mid.state ≡ Some w
    → LeavesOnly (LeavesKept t w) n mid new → LeavesOnly (λ x. Works t f (shown z) (shown x)) (m + n) old new
work_then t f z w m n old mid new first told second =
    let here = at_end (λ x. Works t f (shown z) (shown x)) m old mid w first told in
    follows (λ x. Works t f (shown z) (shown x)) m n old mid new first
    (weaker (LeavesKept t w) (λ x. Works t f (shown z) (shown x)) n n mid new (omega arith) (λ x kept. frames_leave.keeps t f (shown z) (shown w) (shown x) here kept.0 kept.1 kept.2) second)

-- the work of a frame, and then the sends of its line
pub works_and_sends : (t : Mote) (f : Frame) (z y x : State) (most : ℕ) (mid done new : View) → LeavesOnly (λ x. Works t f (shown z) (shown x)) most mid done
    → done.state ≡ Some y → StandsFor (shown_parts (shown y)) (step t f).mote → UsesLine (SendsPart (line_of (step t f).answer)) done new → new.state ≡ Some x
    → LeavesOnly (λ x. Leaves t f (shown z) (shown x)) most mid new
works_and_sends t f z y x most mid done new run told stands line told_new =
    let work = at_end (λ x. Works t f (shown z) (shown x)) most mid done y run told in
    sends (λ x. Leaves t f (shown z) (shown x)) most (SendsPart (line_of (step t f).answer)) mid done new y x
    (weaker (λ x. Works t f (shown z) (shown x)) (λ x. Leaves t f (shown z) (shown x)) most most mid done (omega arith) (λ x. frames_leave.works t f (shown z) (shown x)) run)
    told told_new line (λ v part. frames_leave.sends t f (shown z) (shown y) (shown v) (take part.count (line_of (step t f).answer)) (drop part.count (line_of (step t f).answer)) work stands
    (ap (λ (w : State). w.prog) part.is) (ap (λ (w : State). w.ext) part.is) (take-append-drop part.count (line_of (step t f).answer)) (ap (λ (w : State). w.sent) part.is))

-- a session that ended
pub headline : (s : Mote) (e x : State) (old new : View) (calm : Type 0) (taken : List ℕ) (frames : List Frame) (rest owed : List ℕ) → AllKept s e (boot_frame ∷ frames) old new
    → new.state ≡ Some x → Frames taken frames rest → length frames ≤ 1000000 → (length frames ≡ 1000000 → length rest ≤ 1)
    → e.sent ++ session_lines s frames ≡ x.sent ++ owed → (calm → (owed ≡ []) × StandsFor (shown_parts (shown x)) (session_mote s frames))
    → (h : IsHeadline s (shown e) (shown x) (LeftSince old new) calm taken) × (h.frames ≡ frames) × (h.rest ≡ rest)
headline s e x old new calm taken frames rest owed all told read few budget lines exact = (
  record {
    frames = frames;
    rest = rest;
    read = read;
    few = few;
    budget = budget;
    kept = λ y sent (z, left, same) is. subst (λ (v : Shown). IsKept (s.current ∷ session_commits s frames) v sent) (sym same) (all.kept z sent left (ap (λ (v : Shown). v.sent) (sym same) ∙ is));
    appends = λ y (z, left, same). let sent = all.appends z left in (sent.0, ap (λ (v : Shown). v.sent) same ∙ sent.1);
    last = (x, new.present x old.moment told all.later, refl);
    owed = owed;
    lines = lines;
    exact = exact;
  },
  refl,
  refl,
)
