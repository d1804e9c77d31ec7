-- What a session reads, and what there is to boot, whatever its flashes hold.
use Rattle.std.proofs.Common.{◌≡◌, ℕ, ◌+◌, Bool, true, false, ◌||◌, List, [], ◌∷◌, ◌++◌, length, Option, Some, None, IsTrue, Ok, refl, sym, ap, ◌∙◌, subst, arith, append_assoc}
use Rattle.std.proofs.lemmas.List.{append-nil, length-append}
use Rattle.flash_pages.specs.State.{State}
use Rattle.flash_pages.specs.Board.{View}
use Rattle.component_package.specs.mote.Frames.{Frame, IsFrame, frame_bytes, stream_of, OnlyLastEnds, is_end, has_end}
use Rattle.kept_definitions.specs.Sides.{parts_of}
use Rattle.kept_laws.specs.Standing.{IsUnformatted}
use Rattle.kept_sessions.specs.Turns.{frames_of}
use Rattle.kept_sessions.proofs.Turns.{stream_append, end_append, each_append}
use Rattle.kept_core.specs.declared.session.Next.{Next}
use Rattle.kept_core.specs.declared.session.Session.{Session}
use Rattle.kept_core.specs.declared.status.Status.{Status}
use Rattle.kept_core.specs.declared.status.Status.TheVariants.{Ended, Unformatted}
use Rattle.kept_core.specs.Reading.{served_of, NextGives, ServesNext}
use Rattle.kept_core.specs.Sending.{SendsBut}
use Rattle.kept_core.specs.Serving.{StaysFormatted}
use Rattle.kept_core.specs.Commands.{code_of}
use Rattle.kept_core.specs.Running.{EndsWell, ReadsTurn, StaysTold, ReadsFrames}
use Rattle.kept_core.proofs.Turns.{stop_of, stops_well, rest_read, end_well}
use Rattle.kept_core.proofs.Runs.{ends_all}

-- ---- one turn

some_status : (s u : Status) → Some s ≡ Some u → s ≡ u
some_status s u e = cc

-- no frame was read
pub reads_none : (next : Next) (before after : Session) (status : Status) (payload l : List ℕ) (new : View) → stop_of next ≡ Some (code_of status) → ServesNext (Ok next) before after
    → (rest : List ℕ) × (left : List ℕ) × (new.left ≡ Some left) × NextGives (Ok next) payload l rest left → ReadsTurn (served_of before) (Some status) l new
reads_none next before after status payload l new stops serves r =
    let read = rest_read next (code_of status) payload l r.0 r.1 stops r.3 in
    record {
      frame = None;
      rest = r.0;
      left = r.1;
      told_left = r.2;
      read = read.0;
      each = tt;
      partial = read.1;
      after_end = λ ends. absurd (let q : ⊥ = cc in q);
      goes = λ goes. absurd (let q : ⊥ = cc in q);
      ends = λ s is. subst (λ (u : Status). EndsWell (served_of before + 0) [] r.0 r.1 (code_of u)) (some_status status s is)
          (stops_well next before after payload l r.0 r.1 (code_of status) stops serves r.3);
    }

-- a frame was read
pub reads_frame : (count : ℕ) (status : Option Status) (l left : List ℕ) (f : Frame) (new : View) → IsFrame f → l ≡ frame_bytes f ++ left → new.left ≡ Some left → (status ≡ None → is_end f ≡ false)
    → ((s : Status) → status ≡ Some s → EndsWell (count + 1) (f ∷ []) [] left (code_of s)) → ReadsTurn count status l new
reads_frame count status l left f new frame read told goes ends = record {
  frame = Some f;
  rest = [];
  left = left;
  told_left = told;
  read = read ∙ ap (λ (b : List ℕ). b ++ left) (sym (append-nil (frame_bytes f)));
  each = (frame, (λ e. refl), tt);
  partial = tt;
  after_end = λ e. refl;
  goes = λ on. (refl, ap (λ (b : Bool). b || false) (goes on), refl);
  ends = ends;
}

-- END
pub reads_end : (count : ℕ) (l left : List ℕ) (f : Frame) (new : View) → IsFrame f → l ≡ frame_bytes f ++ left → new.left ≡ Some left → is_end f ≡ true → ReadsTurn count (Some Ended) l new
reads_end count l left f new frame read told ends =
    reads_frame count (Some Ended) l left f new frame read told (λ on. absurd (let q : ⊥ = cc in q))
    (λ s is. subst (λ (u : Status). EndsWell (count + 1) (f ∷ []) [] left (code_of u)) (some_status Ended s is) (end_well (count + 1) f left ends))

-- another frame, and the session goes on
pub reads_on : (count : ℕ) (l left : List ℕ) (f : Frame) (new : View) → IsFrame f → l ≡ frame_bytes f ++ left → new.left ≡ Some left → is_end f ≡ false → ReadsTurn count None l new
reads_on count l left f new frame read told other =
    reads_frame count None l left f new frame read told (λ on. other) (λ s is. absurd (let q : ⊥ = cc in q))

-- ---- the turns

-- these frames were read, none of them END
pub record IsReading (l : List ℕ) (frames : List Frame) (left : List ℕ) (now : View) : Type 0 where
  pub told_left : now.left ≡ Some left
  pub read : l ≡ stream_of frames ++ left
  pub each : OnlyLastEnds frames
  pub open_end : has_end frames ≡ false

pub reading_starts : (l : List ℕ) (now : View) → now.left ≡ Some l → IsReading l [] l now
reading_starts l now told = record { told_left = told; read = refl; each = tt; open_end = refl }

read_more : (l rest left : List ℕ) (frames more : List Frame) (mid : List ℕ) → l ≡ stream_of frames ++ mid → mid ≡ stream_of more ++ (rest ++ left) → l ≡ stream_of (frames ++ more) ++ (rest ++ left)
read_more l rest left frames more mid first second =
    first ∙ ap (λ (x : List ℕ). stream_of frames ++ x) second ∙ sym (append_assoc (stream_of frames) (stream_of more) (rest ++ left))
    ∙ ap (λ (x : List ℕ). x ++ (rest ++ left)) (sym (stream_append frames more))

pub reading_on : (l : List ℕ) (frames : List Frame) (left : List ℕ) (served served' : ℕ) (now new : View) → length frames ≡ served → served' ≡ served + 1 → IsReading l frames left now → ReadsTurn served None left new
    → (frames : List Frame) × (left : List ℕ) × (length frames ≡ served') × IsReading l frames left new
reading_on l frames left served served' now new len next was turn =
    let goes = turn.goes refl in
    let more = frames_of turn.frame in (
      frames ++ more,
      turn.left,
      omega (arith, length-append frames more, goes.0, len, next),
      record {
        told_left = turn.told_left;
        read = read_more l turn.rest turn.left frames more left was.read turn.read ∙ ap (λ (r : List ℕ). stream_of (frames ++ more) ++ (r ++ turn.left)) goes.2;
        each = each_append frames more was.open_end was.each turn.each;
        open_end = end_append frames more was.open_end ∙ goes.1;
      },
    )

pub reading_over : (l : List ℕ) (frames : List Frame) (left : List ℕ) (served : ℕ) (status : Status) (now new : View) → length frames ≡ served → IsReading l frames left now → ReadsTurn served (Some status) left new
    → ReadsFrames l status new
reading_over l frames left served status now new len was turn =
    let more = frames_of turn.frame in
    let same = end_append frames more was.open_end in
    record {
      frames = frames ++ more;
      rest = turn.rest;
      taken = stream_of (frames ++ more) ++ turn.rest;
      left = turn.left;
      told_left = turn.told_left;
      took = read_more l turn.rest turn.left frames more left was.read turn.read ∙ sym (append_assoc (stream_of (frames ++ more)) turn.rest turn.left);
      read = record {
        whole = refl;
        each = each_append frames more was.open_end was.each turn.each;
        rest_partial = turn.partial;
        rest_after_end = λ ends. turn.after_end (subst IsTrue same ends);
      };
      ends = ends_all (code_of status) frames more turn.rest turn.left same (subst (λ (n : ℕ). EndsWell (n + length more) more turn.rest turn.left (code_of status)) (sym len) (turn.ends status refl));
    }

-- ---- what there is to boot

pub stays_sent : (z x : State) (v new : View) (owed piece : List ℕ) → (s : StaysFormatted z v) → SendsBut owed piece s.end x → new.state ≡ Some x → StaysFormatted z new
stays_sent z x v new owed piece s sent told = record {
  end = x;
  told = told;
  stays = λ none. s.stays (subst IsUnformatted (ap (λ (p : List (List ℕ)). parts_of p x.ext) sent.prog ∙ ap (λ (e : List (List ℕ)). parts_of s.end.prog e) sent.ext) none);
}

pub stays_then : (z : State) (mid new : View) → (s : StaysFormatted z mid) → StaysFormatted s.end new → StaysFormatted z new
stays_then z mid new first second = record { end = second.end; told = second.told; stays = λ none. first.stays (second.stays none) }

-- the session ended otherwise
pub stays_over : (s : Status) (z : State) (new : View) → (s ≡ Unformatted → ⊥) → StaysTold (Some s) z new
stays_over s z new other = record { only = λ is. absurd (other (some_status s Unformatted is)); stays = λ on. absurd (let q : ⊥ = cc in q) }

pub stays_on : (z : State) (new : View) → StaysFormatted z new → StaysTold None z new
stays_on z new s = record { only = λ is. absurd (let q : ⊥ = cc in q); stays = λ on. s }
