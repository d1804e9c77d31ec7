-- What a run's answers tell of the mote that they lead to.
use Rattle.std.proofs.Common.{◌≡◌, ◌⊎◌, inl, inr, ⊎_elim, ℕ, ◌<◌, ◌≤◌, Bool, true, false, cond}
use Rattle.std.proofs.Common.{List, [], ◌∷◌, ◌++◌, length, drop, get_or, refl, sym, ap, ◌∙◌, subst, suc, arith, append_assoc, Contains}
use Rattle.std.specs.List.{flat_map}
use Rattle.std.proofs.lemmas.Bool.{false≢true}
use Rattle.std.proofs.lemmas.List.{append-nil, length-append, append_cancel_left}
use Rattle.std.proofs.lemmas.List.Elements.{Contains-append_left, Contains-push}
use Rattle.component_package.specs.declared.answer.Answer.{Answer}
use Rattle.component_package.specs.declared.answer.Answer.TheVariants as answers
use Rattle.component_package.specs.mote.Lines.{line_of}
use Rattle.component_package.specs.mote.Headline.{HasLine, EndsWithLine}
use Rattle.component_package.specs.mote.Frames.{Frame}
use Rattle.kept_definitions.specs.Machine.{Mote, step, commits, commits_from, mote_from, answers_from}
use Rattle.kept_definitions.specs.Kept.{Chosen}
use Rattle.component_package.specs.mote.Machine.{boot_frame}
use Rattle.kept_laws.specs.Runs.{IsAbove, IsRising}
use Rattle.kept_laws.proofs.Rows.{each_row}
use Rattle.kept_laws.proofs.MachineRuns.{commits_rise, answers_tell_the_current, refusals_change_nothing, runs_join, only_commits_choose}
use Rattle.kept_sessions.specs.Lines.{prints}
use Rattle.kept_sessions.specs.History.{lines_from, history, HasSmallNumber, NumbersRise, LinesTellTheMote, ChoicesAreInHistory}
use Rattle.kept_sessions.proofs.Lines.{has_line, first_parts_tell}

-- ---- numbers

-- a step doesn't take the number down
number_rises : (s : Mote) (f : Frame) → IsRising s → s.current.release.number ≤ (step s f).mote.current.release.number
number_rises s f rising = each_row s f (λ x. s.current.release.number ≤ x.mote.current.release.number) (record {
  refused = λ a served said. omega arith;
  repeated = λ stands. omega arith;
  booted = omega arith;
  manifest = λ calm whole above. omega arith;
  piece = λ m p k page bytes calm is at new fits said. omega arith;
  linked = λ m calm is unlinked whole free. omega arith;
  committed = λ m calm is linked. let above : s.current.release.number < m.number = subst (IsAbove s.current.release.number) is rising in omega arith;
  aborted = λ calm. omega arith;
})

-- nor does a run
numbers_rise_from : (s : Mote) (fs : List Frame) → IsRising s → s.current.release.number ≤ (mote_from s fs).current.release.number
numbers_rise_from s [] rising = omega arith
numbers_rise_from s (f ∷ fs) rising =
    let first = number_rises s f rising in
    let rest = numbers_rise_from (step s f).mote fs (commits_rise.step s f rising) in
    omega arith

-- no list is one with an element and nothing
none_among : {A : Type 0} (front : List A) (a : A) (back : List A) → [] ≡ front ++ a ∷ back → ⊥
none_among front a back e = omega (arith, ap length e, length-append front (a ∷ back))

-- the first of a list
head_of : (a b : Answer) (x y : List Answer) → a ∷ x ≡ b ∷ y → a ≡ b
head_of a b x y e = ap (λ (l : List Answer). get_or l 0 answers.Ended) e

-- a `committed` so far is at most the number
committed_below : (s : Mote) (fs : List Frame) (front back : List Answer) (n : ℕ) → IsRising s → answers_from s fs ≡ front ++ answers.Committed n ∷ back
    → n ≤ (mote_from s fs).current.release.number
committed_below s [] front back n rising e = absurd (none_among front (answers.Committed n) back e)
committed_below s (f ∷ fs) [] back n rising e =
    let told = (answers_tell_the_current.committed s f n (head_of (step s f).answer (answers.Committed n) (answers_from (step s f).mote fs) back e)).0 in
    let rest = numbers_rise_from (step s f).mote fs (commits_rise.step s f rising) in
    omega arith
committed_below s (f ∷ fs) (a ∷ front) back n rising e = committed_below (step s f).mote fs front back n (commits_rise.step s f rising) (ap (drop 1) e)

-- an answer without a line
silent_answers : (a : Answer) → prints a ≡ false → (a ≡ answers.Ended) ⊎ (a ≡ answers.Unformatted)
silent_answers answers.Ended p = inl refl
silent_answers answers.Unformatted p = inr refl
silent_answers _ p = absurd (false≢true (sym p))

-- changes nothing
silent_step : (s : Mote) (f : Frame) → prints (step s f).answer ≡ false → (step s f).mote ≡ s
silent_step s f p = refusals_change_nothing s f (⊎_elim (λ is. rw is refl) (λ is. rw is refl) (silent_answers (step s f).answer p))

-- two parts of nothing
both_nothing : (a b : List ℕ) → a ++ b ≡ [] → (a ≡ []) × (b ≡ [])
both_nothing [] b e = (refl, e)
both_nothing (x ∷ a) b e = absurd (let q : suc (length (a ++ b)) ≡ 0 = ap length e in omega arith)

-- an answer whose line is nothing has none
prints_nothing : (a : Answer) → line_of a ≡ [] → prints a ≡ false
prints_nothing a e = at (prints a) refl
  where
    at : (b : Bool) → prints a ≡ b → prints a ≡ false
    at true is = let l = has_line a is in absurd (omega (arith, ap length (sym l.is ∙ e), length-append l.body (10 ∷ [])))
    at false is = is

-- a run that says nothing changes nothing
silent_stays : (s : Mote) (fs : List Frame) → flat_map line_of (answers_from s fs) ≡ [] → mote_from s fs ≡ s
silent_stays s [] e = refl
silent_stays s (f ∷ fs) e =
    let parts = both_nothing (line_of (step s f).answer) (flat_map line_of (answers_from (step s f).mote fs)) e in
    silent_stays (step s f).mote fs parts.1 ∙ silent_step s f (prints_nothing (step s f).answer parts.0)

-- the last `booted` is the number
booted_last : (s : Mote) (fs : List Frame) (front back : List Answer) (n : ℕ) → answers_from s fs ≡ front ++ answers.Booted n ∷ back → flat_map line_of back ≡ []
    → ((mote_from s fs).current.release.number ≡ n) × ((mote_from s fs).standing ≡ false)
booted_last s [] front back n e none = absurd (none_among front (answers.Booted n) back e)
booted_last s (f ∷ fs) [] back n e none =
    let told = answers_tell_the_current.booted s f n (head_of (step s f).answer (answers.Booted n) (answers_from (step s f).mote fs) back e) in
    let rest : answers_from (step s f).mote fs ≡ back = ap (drop 1) e in
    let stays = silent_stays (step s f).mote fs (ap (flat_map line_of) rest ∙ none) in
    (ap (λ (m : Mote). m.current.release.number) stays ∙ told.0, ap (λ (m : Mote). m.standing) stays ∙ told.1)
booted_last s (f ∷ fs) (a ∷ front) back n e none = booted_last (step s f).mote fs front back n (ap (drop 1) e) none

pub numbers_rise : NumbersRise
numbers_rise = record { step = number_rises; run = numbers_rise_from; committed = committed_below; booted = booted_last }

-- ---- lines

-- what a whole line `committed` tells
committed_line : (s : Mote) (fs : List Frame) (sent owed : List ℕ) (n : ℕ) → IsRising s → HasSmallNumber (mote_from s fs) → sent ++ owed ≡ lines_from s fs
    → HasLine (line_of (answers.Committed n)) sent → n ≤ (mote_from s fs).current.release.number
committed_line s fs sent owed n rising small e has =
    let found = (first_parts_tell.committed (answers_from s fs) sent owed n e has).1 in
    let below = committed_below s fs found.front found.back found.number rising found.are in
    let same = found.number_is (omega arith) in
    omega arith

-- lines of one list of answers behind another
pub lines_append : (xs ys : List Answer) → flat_map line_of (xs ++ ys) ≡ flat_map line_of xs ++ flat_map line_of ys
lines_append [] ys = refl
lines_append (x ∷ xs) ys = ap (λ (l : List ℕ). line_of x ++ l) (lines_append xs ys) ∙ sym (append_assoc (line_of x) (flat_map line_of xs) (flat_map line_of ys))

-- what is behind all is nothing
nothing_more : (a b : List ℕ) → a ++ b ≡ a → b ≡ []
nothing_more a b e = append_cancel_left a b [] (e ∙ sym (append-nil a))

-- what a line `booted` at the end tells
booted_line : (s : Mote) (fs : List Frame) (n : ℕ) → HasSmallNumber (mote_from s fs) → EndsWithLine (line_of (answers.Booted n)) (lines_from s fs)
    → ((mote_from s fs).current.release.number ≡ n) × ((mote_from s fs).standing ≡ false)
booted_line s fs n small ends =
    let all = lines_from s fs in
    let found = first_parts_tell.booted (answers_from s fs) all [] n (append-nil all) ends in
    let upto = flat_map line_of (found.front ++ answers.Booted found.number ∷ []) in
    let split : answers_from s fs ≡ (found.front ++ answers.Booted found.number ∷ []) ++ found.back = found.are ∙ sym (append_assoc found.front (answers.Booted found.number ∷ []) found.back) in
    let whole : upto ≡ all = sym (append-nil upto) ∙ found.within in
    let behind : upto ++ flat_map line_of found.back ≡ upto =
    sym (lines_append (found.front ++ answers.Booted found.number ∷ []) found.back) ∙ ap (flat_map line_of) (sym split) ∙ sym whole in
    let last = booted_last s fs found.front found.back found.number found.are (nothing_more upto (flat_map line_of found.back) behind) in
    let number = last.0 in
    let same = found.number_is (omega arith) in
    (number ∙ same, last.1)

pub lines_tell_the_mote : LinesTellTheMote
lines_tell_the_mote = record { committed = committed_line; booted = booted_line }

-- ---- the history

-- the history of a run and one more frame
pub history_more : (s : Mote) (fs gs : List Frame) → history s (fs ++ gs) ≡ history s fs ++ commits_from (mote_from s fs) gs
history_more s fs gs = ap (λ (cs : List Chosen). s.current ∷ cs) (runs_join.commits s fs gs)

-- what boots after a step is in the history with that step's commit
pub next_in : (h : List Chosen) (t : Mote) (f : Frame) → Contains h t.current → Contains (h ++ commits_from t (f ∷ [])) (step t f).mote.current
next_in h t f has = at (commits t f) refl
  where
    at : (b : Bool) → commits t f ≡ b → Contains (h ++ cond b ((step t f).mote.current ∷ []) []) (step t f).mote.current
    at true is = Contains-push h (step t f).mote.current
    at false is = Contains-append_left h [] (step t f).mote.current (subst (Contains h) (sym (only_commits_choose t f is)) has)

-- what boots after a run is in its history
in_history : (h : List Chosen) (s : Mote) (fs : List Frame) → Contains h s.current → Contains (h ++ commits_from s fs) (mote_from s fs).current
in_history h s [] has = Contains-append_left h [] s.current has
in_history h s (f ∷ fs) has =
    let t = (step s f).mote in
    let rest = in_history (h ++ commits_from s (f ∷ [])) t fs (next_in h s f has) in
    subst (λ (cs : List Chosen). Contains cs (mote_from t fs).current)
    (append_assoc h (commits_from s (f ∷ [])) (commits_from t fs) ∙ ap (λ (cs : List Chosen). h ++ cs) (sym (runs_join.commits s (f ∷ []) fs)))
    rest

part_in : (s : Mote) (fs gs : List Frame) → Contains (history s (fs ++ gs)) (mote_from s fs).current
part_in s fs gs =
    let here : Contains (history s fs) (mote_from s fs).current = in_history (s.current ∷ []) s fs (Contains-push [] s.current) in
    subst (λ (cs : List Chosen). Contains cs (mote_from s fs).current) (sym (history_more s fs gs))
    (Contains-append_left (history s fs) (commits_from (mote_from s fs) gs) (mote_from s fs).current here)

pub choices_are_in_history : ChoicesAreInHistory
choices_are_in_history = record { part = part_in; session = λ s fs. in_history (s.current ∷ []) s (boot_frame ∷ fs) (Contains-push [] s.current) }
