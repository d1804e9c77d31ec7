-- What a session keeps frame by frame, wherever power is cut.
use Rattle.std.proofs.Common.{◌≡◌, inl, inr, ⊎_elim, ℕ, ◌^◌, ◌<◌, ◌≤◌, Bool, true, false, cond, List, [], ◌∷◌, ◌++◌, length, refl, sym, ap, ◌∙◌, subst, suc, arith, append_assoc, Contains}
use Rattle.std.specs.List.{flat_map}
use Rattle.std.proofs.lemmas.List.{append-nil, length-append, append_cancel_left, flat_map_more}
use Rattle.std.proofs.lemmas.List.Elements.{Contains-append_left, Contains-push}
use Rattle.component_package.specs.declared.answer.Answer.TheVariants.{Committed, Booted}
use Rattle.component_package.specs.link.Pages.{IsPages}
use Rattle.kept_definitions.specs.Sides.{Parts}
use Rattle.kept_definitions.specs.Sound.{IsSound}
use Rattle.component_package.specs.mote.Lines.{line_of}
use Rattle.component_package.specs.mote.Headline.{Shown, HasLine, EndsWithLine}
use Rattle.kept_definitions.specs.Headline.{shown_parts, StandsFor, Chooses, IsKept}
use Rattle.component_package.specs.mote.Frames.{Frame}
use Rattle.kept_definitions.specs.Machine.{Mote, step, commits_from, mote_from, answers_from}
use Rattle.kept_definitions.specs.Kept.{Chosen}
use Rattle.kept_laws.specs.Steps.{with_gate, other_go, Keeps}
use Rattle.kept_laws.proofs.Steps.{commit_is_whole}
use Rattle.kept_laws.specs.Runs.{IsRising}
use Rattle.kept_laws.proofs.MachineRuns.{runs_join}
use Rattle.kept_laws.proofs.Stands.{parts_stand_for_one, cut_commit_is_whole, calm_where_linked}
use Rattle.kept_laws.proofs.Says.{image_is_the_chosens}
use Rattle.kept_sessions.specs.Lines.{prints, IsLine}
use Rattle.kept_sessions.specs.History.{lines_from, history}
use Rattle.kept_sessions.specs.Kept.{commit_frame, IsServing, Works, Leaves, FramesLeave, FramesAreKept}
use Rattle.kept_sessions.proofs.Rising.{sound_rises}
use Rattle.kept_sessions.proofs.Lines.{has_line, no_line, whole_part}
use Rattle.kept_sessions.proofs.History.{numbers_rise, lines_tell_the_mote, history_more, next_in}

-- ---- what a frame leaves

frame_starts : (t : Mote) (f : Frame) (y : Shown) → IsSound (shown_parts y) → StandsFor (shown_parts y) t → Works t f y y
frame_starts t f y sound stands = record { sound = sound; chosen = inl stands.current; prog = λ calm. refl; sent = refl }

frame_keeps_on : (t : Mote) (f : Frame) (y m x : Shown) → Works t f y m → Keeps (shown_parts m) (shown_parts x) → (t.standing ≡ false → x.prog ≡ m.prog) → x.sent ≡ m.sent
    → Works t f y x
frame_keeps_on t f y m x work keeps prog sent = record {
  sound = keeps.sound;
  chosen = ⊎_elim (λ old. inl (keeps.chosen t.current old)) (λ new. inr (keeps.chosen (step t f).mote.current new)) work.chosen;
  prog = λ calm. prog calm ∙ work.prog calm;
  sent = sent ∙ work.sent;
}

frame_either : (t : Mote) (f : Frame) (y x : Shown) (b : Bool) → IsSound (shown_parts x) → StandsFor (shown_parts x) (cond b (step t f).mote t)
    → (t.standing ≡ false → x.prog ≡ y.prog) → x.sent ≡ y.sent → Works t f y x
frame_either t f y x true sound stands prog sent = record { sound = sound; chosen = inr stands.current; prog = prog; sent = sent }
frame_either t f y x false sound stands prog sent = record { sound = sound; chosen = inl stands.current; prog = prog; sent = sent }

frame_commits : (t : Mote) (y x : Shown) (b : Bool) → IsSound (shown_parts y) → StandsFor (shown_parts y) t → t.linked ≡ true
    → shown_parts x ≡ with_gate (other_go (shown_parts y)) b (shown_parts y) → x.prog ≡ y.prog → x.sent ≡ y.sent → Works t commit_frame y x
frame_commits t y x b sound stands linked parts prog sent =
    let p = shown_parts y in
    let gates = calm_where_linked p (sym stands.linked ∙ linked) in
    frame_either t commit_frame y x b
    (subst IsSound (sym parts) (commit_is_whole p b sound gates.0 gates.1).sound)
    (subst (λ (q : Parts). StandsFor q (cond b (step t commit_frame).mote t)) (sym parts) (cut_commit_is_whole p t b sound stands linked))
    (λ calm. prog)
    sent

frame_works : (t : Mote) (f : Frame) (y x : Shown) → Works t f y x → Leaves t f y x
frame_works t f y x work = record {
  sound = work.sound;
  chosen = work.chosen;
  prog = work.prog;
  part = [];
  owed = line_of (step t f).answer;
  line = refl;
  sent = work.sent ∙ sym (append-nil y.sent);
  done = λ some. absurd (some refl);
}

-- boards with the same flashes have the same parts
same_parts : (z x : Shown) (P : Parts → Type 0) → x.prog ≡ z.prog → x.ext ≡ z.ext → P (shown_parts z) → P (shown_parts x)
same_parts z x P prog ext h =
    let parts : shown_parts z ≡ shown_parts x = λ i. shown_parts (record { prog = sym prog i; ext = sym ext i; sent = z.sent }) in
    subst P parts h

line_sends : (t : Mote) (f : Frame) (y z x : Shown) (part owed : List ℕ) → Works t f y z → StandsFor (shown_parts z) (step t f).mote
    → x.prog ≡ z.prog → x.ext ≡ z.ext → part ++ owed ≡ line_of (step t f).answer → x.sent ≡ z.sent ++ part → Leaves t f y x
line_sends t f y z x part owed left stands prog ext line sent = record {
  sound = same_parts z x IsSound prog ext left.sound;
  chosen = inr (same_parts z x (λ p. Chooses p (step t f).mote.current) prog ext stands.current);
  prog = λ calm. prog ∙ left.prog calm;
  part = part;
  owed = owed;
  line = line;
  sent = sent ∙ ap (λ (l : List ℕ). l ++ part) left.sent;
  done = λ some. same_parts z x (λ p. StandsFor p (step t f).mote) prog ext stands;
}

pub frames_leave : FramesLeave
frames_leave = record { starts = frame_starts; keeps = frame_keeps_on; either = frame_either; commits = frame_commits; works = frame_works; sends = line_sends }

-- ---- runs of one more frame

mote_more : (s : Mote) (fs : List Frame) (f : Frame) → mote_from s (fs ++ f ∷ []) ≡ (step (mote_from s fs) f).mote
mote_more s fs f = runs_join.mote s fs (f ∷ [])

lines_more : (s : Mote) (fs : List Frame) (f : Frame) → lines_from s (fs ++ f ∷ []) ≡ lines_from s fs ++ line_of (step (mote_from s fs) f).answer
lines_more s fs f = ap (flat_map line_of) (runs_join.answers s fs (f ∷ [])) ∙ sym (flat_map_more line_of [] (answers_from s fs) (step (mote_from s fs) f).answer)

-- ---- at entry

begins_serving : (s : Mote) (entry : Shown) → IsSound (shown_parts entry) → StandsFor (shown_parts entry) s → IsServing s entry [] entry
begins_serving s entry sound stands = record {
  rising = sound_rises (shown_parts entry) s sound stands;
  sound = sound;
  stands = stands;
  sent = sym (append-nil entry.sent);
  chosen = Contains-push [] s.current;
}

-- nothing has no line
no_line_in : (before line behind : List ℕ) → IsLine line → [] ≡ before ++ (line ++ behind) → ⊥
no_line_in before line behind l e =
    omega (arith, ap length e, length-append before (line ++ behind), length-append line behind, ap length l.is, length-append l.body (10 ∷ []))

-- where nothing was sent
kept_at_entry : (h : List Chosen) (s : Mote) (x : Shown) → IsSound (shown_parts x) → Chooses (shown_parts x) s.current → Contains h s.current → IsKept h x []
kept_at_entry h s x sound chooses has = record {
  sound = sound;
  chosen = (s.current, has, chooses);
  committed = λ n line c other. absurd (no_line_in line.before (line_of (Committed n)) line.behind (has_line (Committed n) refl) line.is);
  booted = λ n ends. absurd (no_line_in ends.before (line_of (Booted n)) [] (has_line (Booted n) refl) (ends.is ∙ ap (λ (l : List ℕ). ends.before ++ l) (sym (append-nil (line_of (Booted n))))));
}

entry_kept : (s : Mote) (entry x : Shown) (sent : List ℕ) → IsServing s entry [] entry → x ≡ entry → x.sent ≡ entry.sent ++ sent → IsKept (history s []) x sent
entry_kept s entry x sent serving same is =
    let nothing : [] ≡ sent = append_cancel_left entry.sent [] sent (append-nil entry.sent ∙ sym (ap (λ (y : Shown). y.sent) same) ∙ is) in
    subst (λ (y : Shown). IsKept (history s []) y sent) (sym same)
    (subst (IsKept (history s []) entry) nothing (kept_at_entry (history s []) s entry serving.sound serving.stands.current serving.chosen))

-- ---- more frames

-- a longer history keeps it
kept_longer : (h more : List Chosen) (x : Shown) (sent : List ℕ) → IsKept h x sent → IsKept (h ++ more) x sent
kept_longer h more x sent kept = record {
  sound = kept.sound;
  chosen = let (c, has, chooses) = kept.chosen in (c, Contains-append_left h more c has, chooses);
  committed = kept.committed;
  booted = λ n ends. let (c, has, number, pages) = kept.booted n ends in (c, Contains-append_left h more c has, number, pages);
}

kept_more : (s : Mote) (served more : List Frame) (x : Shown) (sent : List ℕ) → IsKept (history s served) x sent → IsKept (history s (served ++ more)) x sent
kept_more s served more x sent kept =
    subst (λ (h : List Chosen). IsKept h x sent) (sym (history_more s served more)) (kept_longer (history s served) (commits_from (mote_from s served) more) x sent kept)

-- ---- one frame

module _ (s : Mote) (entry y : Shown) (served : List Frame) (f : Frame) (serving : IsServing s entry served y) where
  -- the mote before it
  abbrev was : Mote
  was = mote_from s served

  -- and the mote after it
  abbrev next : Mote
  next = (step (mote_from s served) f).mote

  -- it rises
  was_rising : IsRising was
  was_rising = sound_rises (shown_parts y) was serving.sound serving.stands

  -- what boots after it, and before it, is in the history
  next_has : Contains (history s (served ++ f ∷ [])) next.current
  next_has = subst (λ (h : List Chosen). Contains h next.current) (sym (history_more s served (f ∷ [])))
      (next_in (history s served) was f serving.chosen)

  was_has : Contains (history s (served ++ f ∷ [])) was.current
  was_has = subst (λ (h : List Chosen). Contains h was.current) (sym (history_more s served (f ∷ [])))
      (Contains-append_left (history s served) (commits_from was (f ∷ [])) was.current serving.chosen)

  -- the whole line was sent
  goes_on : (z : Shown) → IsSound (shown_parts z) → StandsFor (shown_parts z) next → z.sent ≡ y.sent ++ line_of (step was f).answer → IsServing s entry (served ++ f ∷ []) z
  goes_on z sound stands sent = record {
    rising = serving.rising;
    sound = sound;
    stands = subst (StandsFor (shown_parts z)) (sym (mote_more s served f)) stands;
    sent = sent ∙ ap (λ (l : List ℕ). l ++ line_of (step was f).answer) serving.sent
        ∙ append_assoc entry.sent (lines_from s served) (line_of (step was f).answer)
        ∙ ap (λ (l : List ℕ). entry.sent ++ l) (sym (lines_more s served f));
    chosen = subst (λ (t : Mote). Contains (history s (served ++ f ∷ [])) t.current) (sym (mote_more s served f)) next_has;
  }

  -- ---- a state that a cut may leave
  module _ (x : Shown) (leaves : Leaves (mote_from s served) f y x) where
    -- the bytes sent since entry
    sent_since : x.sent ≡ entry.sent ++ (lines_from s served ++ leaves.part)
    sent_since = leaves.sent ∙ ap (λ (l : List ℕ). l ++ leaves.part) serving.sent ∙ append_assoc entry.sent (lines_from s served) leaves.part

    -- what it chooses has no lower number than the release before
    not_below : (c : Chosen) → Chooses (shown_parts x) c → was.current.release.number ≤ c.release.number
    not_below c chooses = ⊎_elim
        (λ old. let same : was.current.release.number ≡ c.release.number = ap (λ (d : Chosen). d.release.number) (parts_stand_for_one.choice (shown_parts x) was.current c old chooses) in omega arith)
        (λ new.
        let same : next.current.release.number ≡ c.release.number = ap (λ (d : Chosen). d.release.number) (parts_stand_for_one.choice (shown_parts x) next.current c new chooses) in
        let above = numbers_rise.step was f was_rising in
        omega arith)
        leaves.chosen

    -- the image of a mote where no commit stands
    image_of : (z : Shown) (t : Mote) → IsSound (shown_parts z) → StandsFor (shown_parts z) t → t.standing ≡ false → IsPages t.current.set z.prog
    image_of z t sound stands calm =
        image_is_the_chosens.boots (shown_parts z) t.current sound (sym stands.standing ∙ calm) stands.current

    -- nothing of the line was sent
    nothing_sent : leaves.part ≡ [] → IsKept (history s (served ++ f ∷ [])) x (lines_from s served ++ leaves.part)
    nothing_sent none =
        let same : lines_from s served ++ leaves.part ≡ lines_from s served = ap (λ (l : List ℕ). lines_from s served ++ l) none ∙ append-nil (lines_from s served) in
        let small = serving.stands.current.release.stored.number in
        record {
          sound = leaves.sound;
          chosen = ⊎_elim (λ old. (was.current, was_has, old)) (λ new. (next.current, next_has, new)) leaves.chosen;
          committed = λ n has c chooses.
              let low = lines_tell_the_mote.committed s served (lines_from s served) [] n serving.rising small (append-nil (lines_from s served)) (subst (HasLine (line_of (Committed n))) same has) in
              let above = not_below c chooses in
              omega arith;
          booted = λ n ends.
              let told = lines_tell_the_mote.booted s served n small (subst (EndsWithLine (line_of (Booted n))) same ends) in
              (was.current, was_has, told.0, subst (IsPages was.current.set) (sym (leaves.prog told.1)) (image_of y was serving.sound serving.stands told.1));
        }

    -- some of the line was sent, and then all is done that it says
    some_sent : (b : ℕ) (bs : List ℕ) → leaves.part ≡ b ∷ bs → IsKept (history s (served ++ f ∷ [])) x (lines_from s served ++ leaves.part)
    some_sent b bs some =
        let stands : StandsFor (shown_parts x) next = leaves.done (λ none. absurd (let q : suc (length bs) ≡ 0 = ap length (sym some ∙ none) in omega arith)) in
        let chooses = stands.current in
        let small : next.current.release.number < 2 ^ 32 = stands.current.release.stored.number in
        let more = mote_more s served f in
        let small_more : (mote_from s (served ++ f ∷ [])).current.release.number < 2 ^ 32 = subst (λ (t : Mote). t.current.release.number < 2 ^ 32) (sym more) small in
        let lines : (lines_from s served ++ leaves.part) ++ leaves.owed ≡ lines_from s (served ++ f ∷ []) =
        append_assoc (lines_from s served) leaves.part leaves.owed ∙ ap (λ (l : List ℕ). lines_from s served ++ l) leaves.line ∙ sym (lines_more s served f) in
        record {
          sound = leaves.sound;
          chosen = (next.current, next_has, chooses);
          committed = λ n has c other.
              let low = lines_tell_the_mote.committed s (served ++ f ∷ []) (lines_from s served ++ leaves.part) leaves.owed n serving.rising small_more lines has in
              let same : next.current.release.number ≡ c.release.number = ap (λ (d : Chosen). d.release.number) (parts_stand_for_one.choice (shown_parts x) next.current c chooses other) in
              let here = ap (λ (t : Mote). t.current.release.number) more in
              omega arith;
          booted = λ n ends.
              let none = all_sent n ends in
              let whole : lines_from s served ++ leaves.part ≡ lines_from s (served ++ f ∷ []) =
              sym (append-nil (lines_from s served ++ leaves.part)) ∙ ap (λ (l : List ℕ). (lines_from s served ++ leaves.part) ++ l) (sym none) ∙ lines in
              let told = lines_tell_the_mote.booted s (served ++ f ∷ []) n small_more (subst (EndsWithLine (line_of (Booted n))) whole ends) in
              let calm : next.standing ≡ false = sym (ap (λ (t : Mote). t.standing) more) ∙ told.1 in
              (next.current, next_has, sym (ap (λ (t : Mote). t.current.release.number) more) ∙ told.0, image_of x next leaves.sound stands calm);
        }
      where
        -- a line that ends what was sent was sent whole
        all_sent : (n : ℕ) → EndsWithLine (line_of (Booted n)) (lines_from s served ++ leaves.part) → leaves.owed ≡ []
        all_sent n ends = at (prints (step was f).answer) refl
          where
            own : IsLine (line_of (Booted n))
            own = has_line (Booted n) refl

            part_line : (b ∷ bs) ++ leaves.owed ≡ line_of (step was f).answer
            part_line = ap (λ (l : List ℕ). l ++ leaves.owed) (sym some) ∙ leaves.line

            feed : lines_from s served ++ (b ∷ bs) ≡ (ends.before ++ own.body) ++ 10 ∷ []
            feed = ap (λ (l : List ℕ). lines_from s served ++ l) (sym some) ∙ ends.is ∙ ap (λ (l : List ℕ). ends.before ++ l) own.is ∙ sym (append_assoc ends.before own.body (10 ∷ []))

            at : (p : Bool) → prints (step was f).answer ≡ p → leaves.owed ≡ []
            at true is = whole_part b bs leaves.owed (line_of (step was f).answer) (lines_from s served) (ends.before ++ own.body) (has_line (step was f).answer is) part_line feed
            at false is = absurd (let q : suc (length (bs ++ leaves.owed)) ≡ 0 = ap length (part_line ∙ no_line (step was f).answer is) in omega arith)

    -- either way
    kept_here : IsKept (history s (served ++ f ∷ [])) x (lines_from s served ++ leaves.part)
    kept_here = by leaves.part refl
      where
        by : (part : List ℕ) → leaves.part ≡ part → IsKept (history s (served ++ f ∷ [])) x (lines_from s served ++ leaves.part)
        by [] is = nothing_sent is
        by (b ∷ bs) is = some_sent b bs is

    frame_kept : (sent : List ℕ) → x.sent ≡ entry.sent ++ sent → IsKept (history s (served ++ f ∷ [])) x sent
    frame_kept sent is = subst (IsKept (history s (served ++ f ∷ [])) x) (append_cancel_left entry.sent (lines_from s served ++ leaves.part) sent (sym sent_since ∙ is)) kept_here

pub frames_are_kept : FramesAreKept
frames_are_kept = record {
  begins = begins_serving;
  entry = entry_kept;
  more = kept_more;
  frame = λ s entry y served f x sent serving leaves is. frame_kept s entry y served f serving x leaves sent is;
  appends = λ s entry y served f x serving leaves. (lines_from s served ++ leaves.part, sent_since s entry y served f serving x leaves);
  next = λ s entry y served f z serving sound stands sent. goes_on s entry y served f serving z sound stands sent;
}
