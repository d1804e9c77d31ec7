-- A session by its turns.
use Rattle.std.proofs.Common.{◌≡◌, ⊎_elim, inl, inr, ℕ, ◌+◌, ◌≤◌, Bool, true, false, ◌||◌, IsTrue}
use Rattle.std.proofs.Common.{List, [], ◌∷◌, ◌++◌, length, take, drop, Option, Some, None, refl, sym, ap, ◌∙◌, subst, arith, append_assoc}
use Rattle.std.specs.List.{flat_map}
use Rattle.std.proofs.lemmas.Bool.{or_parts}
use Rattle.std.proofs.lemmas.List.Sums.{sum_by-append, sum_by-cons}
use Rattle.std.proofs.lemmas.List.{append-nil, length-append, take-append-drop, take-take, drop-take}
use Rattle.flash_pages.specs.State.{State, SendsPart, with_sent}
use Rattle.flash_pages.specs.Board.{View, UsesLine}
use Rattle.flash_pages.specs.Moments.{LeavesOnly}
use Rattle.component_package.specs.mote.Lines.{line_of}
use Rattle.component_package.specs.mote.Frames.{Frame, stream_of, frame_bytes, OnlyLastEnds, is_end, has_end}
use Rattle.kept_definitions.specs.Headline.{shown_parts, StandsFor}
use Rattle.kept_definitions.specs.Machine.{Mote, step, mote_from, answers_from, session_lines, session_mote}
use Rattle.component_package.specs.mote.Machine.{boot_frame}
use Rattle.kept_laws.proofs.MachineRuns.{runs_join}
use Rattle.kept_sessions.specs.History.{lines_from}
use Rattle.kept_sessions.specs.Kept.{Leaves}
use Rattle.kept_sessions.specs.Sessions.{shown, AllKept}
use Rattle.kept_sessions.specs.Turns.{programs_of, all_programs_of, frames_of, LeavesTurn, IsTurn, IsSession, IsOver}
use Rattle.kept_sessions.proofs.History.{lines_append}
use Rattle.kept_sessions.proofs.Sessions.{frame_keeps, frame_served, headline}

-- ---- sends, one behind the other

-- a first part, and a first part of what is behind it
parts_join : (m n : ℕ) (piece : List ℕ) → take m piece ++ take n (drop m piece) ≡ take (m + n) piece
parts_join m n piece =
    ap (λ (x : List ℕ). x ++ take n (drop m piece)) (sym (take-take m (m + n) piece (omega arith)))
    ∙ ap (λ (x : List ℕ). take m (take (m + n) piece) ++ x) (sym (drop-take m n piece))
    ∙ take-append-drop m (take (m + n) piece)

-- and so of the bytes sent
pub sent_join : (m n : ℕ) (piece : List ℕ) (s : State) → with_sent (with_sent s (take m piece)) (take n (drop m piece)) ≡ with_sent s (take (m + n) piece)
sent_join m n piece s = ap (λ (x : List ℕ). let z : State = record { prog = s.prog; ext = s.ext; sent = x } in z)
    (append_assoc s.sent (take m piece) (take n (drop m piece)) ∙ ap (λ (x : List ℕ). s.sent ++ x) (parts_join m n piece))

-- before the first send
pub sends_begin : (piece : List ℕ) (v : View) → UsesLine (SendsPart piece) v v
sends_begin piece v = record {
  untold = λ none. none;
  untold_left = λ none. none;
  cut = record { later = omega arith; nothing_else = λ s x t told le left. inl left; keeps = λ x t le left. left };
  programs = λ place. refl;
  all_programs = refl;
  line = omega arith;
  flash = refl;
}

-- a send of what is behind a first part that was sent
pub sends_on : (piece rest : List ℕ) (at : ℕ) (old mid new : View) → rest ≡ drop at piece → UsesLine (SendsPart piece) old mid
    → ((s : State) → old.state ≡ Some s → mid.state ≡ Some (with_sent s (take at piece)))
    → UsesLine (SendsPart rest) mid new → UsesLine (SendsPart piece) old new
sends_on piece rest at old mid new behind first there second = record {
  untold = λ none. second.untold (first.untold none);
  untold_left = λ none. second.untold_left (first.untold_left none);
  cut = record {
    later = omega (arith, first.cut.later, second.cut.later);
    nothing_else = λ s x t told le left. ⊎_elim
        (first.cut.nothing_else s x t told le)
        (λ here. inr (record { count = at + here.count; is = here.is ∙ ap (λ (x : List ℕ). with_sent (with_sent s (take at piece)) (take here.count x)) behind ∙ sent_join at here.count piece s }))
        (second.cut.nothing_else (with_sent s (take at piece)) x t (there s told) (omega (arith, le, first.cut.later)) left);
    keeps = λ x t le left. second.cut.keeps x t (omega (arith, le, first.cut.later)) (first.cut.keeps x t le left);
  };
  programs = λ place. second.programs place ∙ first.programs place;
  all_programs = second.all_programs ∙ first.all_programs;
  line = omega (arith, first.line, second.line);
  flash = second.flash ∙ first.flash;
}

-- ---- frames, one behind the other

pub stream_append : (fs gs : List Frame) → stream_of (fs ++ gs) ≡ stream_of fs ++ stream_of gs
stream_append [] gs = refl
stream_append (f ∷ fs) gs = ap (λ (x : List ℕ). frame_bytes f ++ x) (stream_append fs gs) ∙ sym (append_assoc (frame_bytes f) (stream_of fs) (stream_of gs))

pub end_append : (fs gs : List Frame) → has_end fs ≡ false → has_end (fs ++ gs) ≡ has_end gs
end_append [] gs none = refl
end_append (f ∷ fs) gs none =
    let parts = or_parts (is_end f) (has_end fs) none in
    ap (λ (b : Bool). b || has_end (fs ++ gs)) parts.0 ∙ end_append fs gs parts.1

pub each_append : (fs gs : List Frame) → has_end fs ≡ false → OnlyLastEnds fs → OnlyLastEnds gs → OnlyLastEnds (fs ++ gs)
each_append [] gs none first second = second
each_append (f ∷ fs) gs none first second =
    let parts = or_parts (is_end f) (has_end fs) none in
    (first.0, (λ ends. absurd (let e : true ≡ false = sym ends ∙ parts.0 in cc)), each_append fs gs parts.1 first.2 second)

-- lines of a run and a run behind it
lines_join : (s : Mote) (fs gs : List Frame) → lines_from s (fs ++ gs) ≡ lines_from s fs ++ lines_from (mote_from s fs) gs
lines_join s fs gs = ap (flat_map line_of) (runs_join.answers s fs gs) ∙ lines_append (answers_from s fs) (answers_from (mote_from s fs) gs)

-- ---- a turn of a session

module _ (s : Mote) (e : State) (l : List ℕ) (frames : List Frame) (z : State) (mid : List ℕ) (goes calm : Type 0) (ends : List Frame → List ℕ → List ℕ → Type 0) (old now new : View)
    (session : IsSession s e l frames z mid old now) (turn : IsTurn (mote_from s (boot_frame ∷ frames)) (length frames) z mid goes calm ends now new) where
  -- the frames with that of the turn
  abbrev more : List Frame
  more = frames ++ frames_of turn.frame

  -- what was read
  read_more : l ≡ stream_of more ++ (turn.rest ++ turn.left)
  read_more = session.read ∙ ap (λ (x : List ℕ). stream_of frames ++ x) turn.read ∙ sym (append_assoc (stream_of frames) (stream_of (frames_of turn.frame)) (turn.rest ++ turn.left))
      ∙ ap (λ (x : List ℕ). x ++ (turn.rest ++ turn.left)) (sym (stream_append frames (frames_of turn.frame)))

  few_more : length more ≤ 1000000
  few_more = omega (arith, length-append frames (frames_of turn.frame), turn.few session.few)

  each_more : OnlyLastEnds more
  each_more = each_append frames (frames_of turn.frame) session.open_end session.each turn.each

  pub ends_more : has_end more ≡ has_end (frames_of turn.frame)
  ends_more = end_append frames (frames_of turn.frame) session.open_end

  -- the lines of the session
  lines_more : e.sent ++ session_lines s more ≡ turn.end.sent ++ turn.owed
  lines_more =
      ap (λ (x : List ℕ). e.sent ++ x) (lines_join s (boot_frame ∷ frames) (frames_of turn.frame))
      ∙ sym (append_assoc e.sent (lines_from s (boot_frame ∷ frames)) (lines_from (mote_from s (boot_frame ∷ frames)) (frames_of turn.frame)))
      ∙ ap (λ (x : List ℕ). x ++ lines_from (mote_from s (boot_frame ∷ frames)) (frames_of turn.frame)) (sym session.between.serving.sent)
      ∙ turn.lines

  mote_more : mote_from (mote_from s (boot_frame ∷ frames)) (frames_of turn.frame) ≡ session_mote s more
  mote_more = sym (runs_join.mote s (boot_frame ∷ frames) (frames_of turn.frame))

  -- each state that a cut may have left
  all_more : AllKept s e (boot_frame ∷ more) old new
  all_more = by turn.frame turn.leaves
    where
      by : (frame : Option Frame) → LeavesOnly (LeavesTurn (mote_from s (boot_frame ∷ frames)) frame z) turn.most now new → AllKept s e (boot_frame ∷ (frames ++ frames_of frame)) old new
      by (Some f) run = frame_keeps s e (boot_frame ∷ frames) f z old now new turn.most session.between run
      by None run =
          let all = session.between.all in
          let was : (x : State) → new.left_since old.moment x → now.left_since old.moment x =
          λ x left. ⊎_elim (λ before. before)
          (λ here. subst (now.left_since old.moment) (sym here) (now.present z old.moment session.between.told all.later)) (run.before x old.moment all.later left) in
          subst (λ (fs : List Frame). AllKept s e (boot_frame ∷ fs) old new) (sym (append-nil frames)) (record {
            later = omega (arith, all.later, run.later);
            kept = λ x sent left. all.kept x sent (was x left);
            appends = λ x left. all.appends x (was x left);
          })

  -- how many programs there were
  programs_more : new.all_programs ≤ old.all_programs + all_programs_of (boot_frame ∷ more)
  programs_more = omega (
    arith,
    session.programs,
    turn.leaves.at_most,
    turn.bounded,
    sum_by-append programs_of frames (frames_of turn.frame),
    sum_by-cons programs_of boot_frame frames,
    sum_by-cons programs_of boot_frame more,
  )

  -- the session ended with this turn
  pub session_ends : IsOver s e l more turn.rest turn.left turn.end calm old new
  session_ends =
      let h = headline s e turn.end old new calm (stream_of more ++ turn.rest) more turn.rest turn.owed all_more turn.told
      (record { whole = refl; each = each_more; rest_partial = turn.partial; rest_after_end = λ is. turn.after_end (subst IsTrue ends_more is) })
      few_more
      (λ all. turn.budget (sym (length-append frames (frames_of turn.frame)) ∙ all))
      lines_more
      (λ c. ((turn.exact c).0, subst (StandsFor (shown_parts (shown turn.end))) mote_more (turn.exact c).1)) in
      record {
        taken = stream_of more ++ turn.rest;
        took = read_more ∙ sym (append_assoc (stream_of more) turn.rest turn.left);
        holds = h.0;
        frames_are = h.1;
        rest_is = h.2;
        programs = programs_more;
      }

  -- the session goes on
  pub session_goes : goes → (f : Frame) × IsSession s e l (frames ++ f ∷ []) turn.end turn.left old new
  session_goes on =
      let served = turn.served on in
      let f = served.0 in
      let one : frames_of turn.frame ≡ f ∷ [] = ap frames_of served.1 in
      let went = turn.went on in
      let run : LeavesOnly (λ x. Leaves (mote_from s (boot_frame ∷ frames)) f (shown z) (shown x)) turn.most now new =
      subst (λ (frame : Option Frame). LeavesOnly (LeavesTurn (mote_from s (boot_frame ∷ frames)) frame z) turn.most now new) served.1 turn.leaves in
      let t = mote_from s (boot_frame ∷ frames) in
      let stands : StandsFor (shown_parts (shown turn.end)) (step t f).mote = subst (λ (fs : List Frame). StandsFor (shown_parts (shown turn.end)) (mote_from t fs)) one went.1 in
      let sent : turn.end.sent ≡ z.sent ++ line_of (step t f).answer =
      sym (append-nil turn.end.sent) ∙ ap (λ (x : List ℕ). turn.end.sent ++ x) (sym went.0) ∙ sym turn.lines
      ∙ ap (λ (fs : List Frame). z.sent ++ lines_from t fs) one ∙ ap (λ (x : List ℕ). z.sent ++ x) (append-nil (line_of (step t f).answer)) in
      let all : more ≡ frames ++ f ∷ [] = ap (λ (fs : List Frame). frames ++ fs) one in (
        f,
        record {
          few = subst (λ (fs : List Frame). length fs ≤ 1000000) all few_more;
          told_left = turn.told_left;
          read = read_more ∙ ap (λ (x : List ℕ). stream_of more ++ (x ++ turn.left)) served.3 ∙ ap (λ (fs : List Frame). stream_of fs ++ turn.left) all;
          each = subst OnlyLastEnds all each_more;
          open_end = ap has_end (sym all) ∙ ends_more ∙ ap has_end one ∙ served.2;
          programs = subst (λ (fs : List Frame). new.all_programs ≤ old.all_programs + all_programs_of (boot_frame ∷ fs)) all programs_more;
          between = frame_served s e (boot_frame ∷ frames) f z turn.end old now new turn.most session.between run turn.told stands sent;
        },
      )
