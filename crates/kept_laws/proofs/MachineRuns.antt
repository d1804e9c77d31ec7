-- What the mote machine keeps, by its rows.
use Rattle.std.proofs.Common.{sym, ◌∙◌, ◌++◌, ◌≡◌, ◌≢◌, ℕ, ◌<◌, ◌&&◌, Bool, true, false, not, cond, List, [], ◌∷◌, length, suc, refl, ap, subst, Some, None}
use Rattle.std.specs.List.{AllByRecursion}
use Rattle.std.proofs.lemmas.Option.{same_Some}
use Rattle.std.proofs.lemmas.Bool.{false≢true, both_ways, and_parts, and_from, not_from_false}
use Rattle.component_package.specs.declared.answer.Answer.{Answer}
use Rattle.component_package.specs.declared.answer.Answer.TheVariants as answers
use Rattle.kept_definitions.specs.Stored.{StoredRelease}
use Rattle.component_package.specs.link.Link.{link_cause}
use Rattle.kept_definitions.specs.Kept.{Chosen, coming_set}
use Rattle.component_package.specs.mote.Frames.{Frame}
use Rattle.component_package.specs.mote.Machine.{boot_frame}
use Rattle.kept_definitions.specs.Machine.{Mote, Step, step, commits, mote_from, commits_from, answers_from}
use Rattle.mote_laws.specs.Runs.{is_of_current, is_refusal, is_served}
use Rattle.kept_laws.specs.Runs.{CommitsAreWhole, IsLinkedWhole, IsWhole, RunsJoin, AnswersTellTheCurrent, RefusalsChangeNothing, MachineIsTotal, OnlyCommitsChoose, OnlyItsAnswerChanges, IsAbove, IsRising, ReleasesRise, CommitsRise}
use Rattle.kept_laws.proofs.Rows.{each_row}

-- ---- refusals

pub refusals_change_nothing : RefusalsChangeNothing
refusals_change_nothing s f = each_row s f (λ x. is_refusal x.answer ≡ true → x.mote ≡ s) (record {
  refused = λ a served said refuses. refl;
  repeated = λ stands refuses. refl;
  booted = λ refuses. absurd (false≢true refuses);
  manifest = λ calm whole above refuses. absurd (false≢true refuses);
  piece = λ m p k page bytes calm is at new fits said refuses. absurd (false≢true refuses);
  linked = λ m calm is unlinked whole free refuses. absurd (false≢true refuses);
  committed = λ m calm is linked refuses. absurd (false≢true refuses);
  aborted = λ calm refuses. absurd (false≢true refuses);
})

-- each frame has an answer
serves : (s : Mote) (f : Frame) → is_served (step s f).answer ≡ true
serves s f = each_row s f (λ x. is_served x.answer ≡ true) (record {
  refused = λ a served said. served;
  repeated = λ stands. refl;
  booted = refl;
  manifest = λ calm whole above. refl;
  piece = λ m p k page bytes calm is at new fits said. refl;
  linked = λ m calm is unlinked whole free. refl;
  committed = λ m calm is linked. refl;
  aborted = λ calm. refl;
})

-- and each of several
as_many : (s : Mote) (fs : List Frame) → length (answers_from s fs) ≡ length fs
as_many s [] = refl
as_many s (f ∷ fs) = ap suc (as_many (step s f).mote fs)

pub machine_is_total : MachineIsTotal
machine_is_total = record { serves = serves; all = λ s fs. as_many s (boot_frame ∷ fs) }

-- ---- what an answer may change

-- the current release stays
current_kept : (s : Mote) (f : Frame) → ((n : ℕ) → (step s f).answer ≢ answers.Committed n) → (step s f).mote.current ≡ s.current
current_kept s f = each_row s f (λ x. ((n : ℕ) → x.answer ≢ answers.Committed n) → x.mote.current ≡ s.current) (record {
  refused = λ a served said other. refl;
  repeated = λ stands other. refl;
  booted = λ other. refl;
  manifest = λ calm whole above other. refl;
  piece = λ m p k page bytes calm is at new fits said other. refl;
  linked = λ m calm is unlinked whole free other. refl;
  committed = λ m calm is linked other. absurd (other m.number refl);
  aborted = λ calm other. refl;
})

-- no commit comes to stand
standing_kept : (s : Mote) (f : Frame) → s.standing ≡ false → ((n : ℕ) → (step s f).answer ≢ answers.Committed n) → (step s f).mote.standing ≡ false
standing_kept s f none = each_row s f (λ x. ((n : ℕ) → x.answer ≢ answers.Committed n) → x.mote.standing ≡ false) (record {
  refused = λ a served said other. none;
  repeated = λ stands other. none;
  booted = λ other. refl;
  manifest = λ calm whole above other. none;
  piece = λ m p k page bytes calm is at new fits said other. none;
  linked = λ m calm is unlinked whole free other. none;
  committed = λ m calm is linked other. absurd (other m.number refl);
  aborted = λ calm other. none;
})

-- the slots stay
store_kept : (s : Mote) (f : Frame) → ((k page : ℕ) → (step s f).answer ≢ answers.Piece k page) → (step s f).mote.inbox ≡ s.inbox
store_kept s f = each_row s f (λ x. ((k page : ℕ) → x.answer ≢ answers.Piece k page) → x.mote.inbox ≡ s.inbox) (record {
  refused = λ a served said other. refl;
  repeated = λ stands other. refl;
  booted = λ other. refl;
  manifest = λ calm whole above other. refl;
  piece = λ m p k page bytes calm is at new fits said other. absurd (other k page refl);
  linked = λ m calm is unlinked whole free other. refl;
  committed = λ m calm is linked other. refl;
  aborted = λ calm other. refl;
})

-- the same release comes in
incoming_kept : (s : Mote) (f : Frame) → ((n h : ℕ) → (step s f).answer ≢ answers.ManifestIs n h) → ((n : ℕ) → (step s f).answer ≢ answers.Committed n)
    → (step s f).answer ≢ answers.Aborted → (step s f).mote.incoming ≡ s.incoming
incoming_kept s f =
    each_row s f (λ x. ((n h : ℕ) → x.answer ≢ answers.ManifestIs n h) → ((n : ℕ) → x.answer ≢ answers.Committed n) → x.answer ≢ answers.Aborted → x.mote.incoming ≡ s.incoming) (record {
      refused = λ a served said other more most. refl;
      repeated = λ stands other more most. refl;
      booted = λ other more most. refl;
      manifest = λ calm whole above other more most. absurd (other _ _ refl);
      piece = λ m p k page bytes calm is at new fits said other more most. refl;
      linked = λ m calm is unlinked whole free other more most. refl;
      committed = λ m calm is linked other more most. absurd (more m.number refl);
      aborted = λ calm other more most. absurd (most refl);
    })

-- a mote that waits for its boot stays as it is
until_boot : (s : Mote) (f : Frame) → s.standing ≡ true → ((n : ℕ) → (step s f).answer ≢ answers.Booted n) → (step s f).mote ≡ s
until_boot s f stands = each_row s f (λ x. ((n : ℕ) → x.answer ≢ answers.Booted n) → x.mote ≡ s) (record {
  refused = λ a served said other. refl;
  repeated = λ stands other. refl;
  booted = λ other. absurd (other s.current.release.number refl);
  manifest = λ calm whole above other. absurd (both_ways s.standing calm stands);
  piece = λ m p k page bytes calm is at new fits said other. absurd (both_ways s.standing calm stands);
  linked = λ m calm is unlinked whole free other. absurd (both_ways s.standing calm stands);
  committed = λ m calm is linked other. absurd (both_ways s.standing calm stands);
  aborted = λ calm other. absurd (both_ways s.standing calm stands);
})

pub only_its_answer_changes : OnlyItsAnswerChanges
only_its_answer_changes = record { current = current_kept; standing = standing_kept; incoming = incoming_kept; inbox = store_kept; until_boot = until_boot }

-- two answers that a test tells apart
not_of_current : (a b : Answer) → is_of_current a ≡ false → is_of_current b ≡ true → a ≡ b → ⊥
not_of_current a b said other same = both_ways (is_of_current b) (ap is_of_current (sym same) ∙ said) other

-- `committed` names what stands to be installed
committed_tells : (s : Mote) (f : Frame) (n : ℕ) → (step s f).answer ≡ answers.Committed n → ((step s f).mote.current.release.number ≡ n) × ((step s f).mote.standing ≡ true)
committed_tells s f n = each_row s f (λ x. x.answer ≡ answers.Committed n → (x.mote.current.release.number ≡ n) × (x.mote.standing ≡ true)) (record {
  refused = λ a served said is. absurd (not_of_current a (answers.Committed n) said refl is);
  repeated = λ stands is. ((let e : s.current.release.number ≡ n = cc in e), stands);
  booted = λ is. absurd cc;
  manifest = λ calm whole above is. absurd cc;
  piece = λ m p k page bytes calm coming at new fits said is. absurd cc;
  linked = λ m calm coming unlinked whole free is. absurd cc;
  committed = λ m calm coming linked is. ((let e : m.number ≡ n = cc in e), refl);
  aborted = λ calm is. absurd cc;
})

-- `booted` names what was
booted_tells : (s : Mote) (f : Frame) (n : ℕ) → (step s f).answer ≡ answers.Booted n → ((step s f).mote.current.release.number ≡ n) × ((step s f).mote.standing ≡ false)
booted_tells s f n = each_row s f (λ x. x.answer ≡ answers.Booted n → (x.mote.current.release.number ≡ n) × (x.mote.standing ≡ false)) (record {
  refused = λ a served said is. absurd (not_of_current a (answers.Booted n) said refl is);
  repeated = λ stands is. absurd cc;
  booted = λ is. ((let e : s.current.release.number ≡ n = cc in e), refl);
  manifest = λ calm whole above is. absurd cc;
  piece = λ m p k page bytes calm coming at new fits said is. absurd cc;
  linked = λ m calm coming unlinked whole free is. absurd cc;
  committed = λ m calm coming linked is. absurd cc;
  aborted = λ calm is. absurd cc;
})

pub answers_tell_the_current : AnswersTellTheCurrent
answers_tell_the_current = record { committed = committed_tells; booted = booted_tells }

-- ---- runs one after another

-- the mote after both
motes_join : (s : Mote) (fs gs : List Frame) → mote_from s (fs ++ gs) ≡ mote_from (mote_from s fs) gs
motes_join s [] gs = refl
motes_join s (f ∷ fs) gs = motes_join (step s f).mote fs gs

-- the answers of both
answers_join : (s : Mote) (fs gs : List Frame) → answers_from s (fs ++ gs) ≡ answers_from s fs ++ answers_from (mote_from s fs) gs
answers_join s [] gs = refl
answers_join s (f ∷ fs) gs = ap (λ (answers : List Answer). (step s f).answer ∷ answers) (answers_join (step s f).mote fs gs)

-- the commits of both
commits_join : (s : Mote) (fs gs : List Frame) → commits_from s (fs ++ gs) ≡ commits_from s fs ++ commits_from (mote_from s fs) gs
commits_join s [] gs = refl
commits_join s (f ∷ fs) gs = one (commits s f) (commits_join (step s f).mote fs gs)
  where
    one : (b : Bool) → commits_from (step s f).mote (fs ++ gs) ≡ commits_from (step s f).mote fs ++ commits_from (mote_from (step s f).mote fs) gs
        → cond b ((step s f).mote.current ∷ commits_from (step s f).mote (fs ++ gs)) (commits_from (step s f).mote (fs ++ gs))
        ≡ cond b ((step s f).mote.current ∷ commits_from (step s f).mote fs) (commits_from (step s f).mote fs) ++ commits_from (mote_from (step s f).mote fs) gs
    one true rest = ap (λ (cs : List Chosen). (step s f).mote.current ∷ cs) rest
    one false rest = rest

pub runs_join : RunsJoin
runs_join = record { mote = motes_join; answers = answers_join; commits = commits_join }

-- ---- releases rise

-- a step keeps a mote rising
rises : (s : Mote) (f : Frame) → IsRising s → IsRising (step s f).mote
rises s f rising = each_row s f (λ x. IsRising x.mote) (record {
  refused = λ a served said. rising;
  repeated = λ stands. rising;
  booted = rising;
  manifest = λ calm whole above. above;
  piece = λ m p k page bytes calm is at new fits said. rising;
  linked = λ m calm is unlinked whole free. rising;
  committed = λ m calm is linked. tt;
  aborted = λ calm. tt;
})

-- and so does a run
run_rises : (s : Mote) (fs : List Frame) → IsRising s → IsRising (mote_from s fs)
run_rises s [] rising = rising
run_rises s (f ∷ fs) rising = run_rises (step s f).mote fs (rises s f rising)

-- a commit rises, and all else keeps the current release's number
record Rises (s : Mote) (x : Step) : Type 0 where
  above : (not s.standing && x.mote.standing) ≡ true → s.current.release.number < x.mote.current.release.number
  same : (not s.standing && x.mote.standing) ≡ false → x.mote.current.release.number ≡ s.current.release.number

-- no commit comes to stand where nothing changes
no_commit : (b : Bool) → (not b && b) ≡ true → ⊥
no_commit true commits = absurd (false≢true commits)
no_commit false commits = absurd (false≢true commits)

-- each step, by its row
commit_rises : (s : Mote) (f : Frame) → IsRising s → Rises s (step s f)
commit_rises s f rising = each_row s f (Rises s) (record {
  refused = λ a served said. record { above = λ commits. absurd (no_commit s.standing commits); same = λ none. refl };
  repeated = λ stands. record { above = λ commits. absurd (no_commit s.standing commits); same = λ none. refl };
  booted = record { above = λ commits. absurd (false≢true (and_parts (not s.standing) false commits).1); same = λ none. refl };
  manifest = λ calm whole above. record { above = λ commits. absurd (no_commit s.standing commits); same = λ none. refl };
  piece = λ m p k page bytes calm is at new fits said. record { above = λ commits. absurd (no_commit s.standing commits); same = λ none. refl };
  linked = λ m calm is unlinked whole free. record { above = λ commits. absurd (no_commit s.standing commits); same = λ none. refl };
  committed = λ m calm is linked. record {
    above = λ commits. subst (IsAbove s.current.release.number) is rising;
    same = λ none. absurd (both_ways (not s.standing && true) none (and_from (not s.standing) true (not_from_false s.standing calm) refl));
  };
  aborted = λ calm. record { above = λ commits. absurd (no_commit s.standing commits); same = λ none. refl };
})

-- the commits of a run rise
commits_rise_from : (s : Mote) (fs : List Frame) → IsRising s → ReleasesRise s.current.release.number (commits_from s fs)
commits_rise_from s [] rising = tt
commits_rise_from s (f ∷ fs) rising = one (commits s f) refl (commits_rise_from (step s f).mote fs (rises s f rising))
  where
    one : (b : Bool) → commits s f ≡ b → ReleasesRise (step s f).mote.current.release.number (commits_from (step s f).mote fs)
        → ReleasesRise s.current.release.number (cond b ((step s f).mote.current ∷ commits_from (step s f).mote fs) (commits_from (step s f).mote fs))
    one true is rest = ((commit_rises s f rising).above is, rest)
    one false is rest = subst (λ n. ReleasesRise n (commits_from (step s f).mote fs)) ((commit_rises s f rising).same is) rest

pub commits_rise : CommitsRise
commits_rise = record { step = rises; run = λ s fs. run_rises s (boot_frame ∷ fs); commits = λ s fs. commits_rise_from s (boot_frame ∷ fs) }

-- ---- what is linked is whole

-- each step keeps a mote so
pub keeps_whole : (s : Mote) (f : Frame) → IsLinkedWhole s → IsLinkedWhole (step s f).mote
keeps_whole s f whole = each_row s f (λ x. IsLinkedWhole x.mote) (record {
  refused = λ a served said. whole;
  repeated = λ stands. whole;
  booted = λ linked. record { release = (whole linked).release; incoming = (whole linked).incoming; faultless = (whole linked).faultless; free = (whole linked).free };
  manifest = λ calm faultless above linked. absurd (false≢true linked);
  piece = λ m p k page bytes calm is at new fits said linked. absurd (false≢true linked);
  linked = λ m calm is unlinked faultless free linked. record { release = m; incoming = is; faultless = faultless; free = free };
  committed = λ m calm is was linked. absurd (false≢true linked);
  aborted = λ calm linked. absurd (false≢true linked);
})

-- and so does a run
run_keeps_whole : (s : Mote) (fs : List Frame) → IsLinkedWhole s → IsLinkedWhole (mote_from s fs)
run_keeps_whole s [] whole = whole
run_keeps_whole s (f ∷ fs) whole = run_keeps_whole (step s f).mote fs (keeps_whole s f whole)

-- nothing refuses the release that comes in, where it is whole
pub free_incoming : (s : Mote) (m : StoredRelease) → s.incoming ≡ Some m → IsWhole s → link_cause (coming_set s.current s.inbox m) ≡ None
free_incoming s m is whole = ap (λ (n : StoredRelease). link_cause (coming_set s.current s.inbox n)) (same_Some m whole.release (sym is ∙ whole.incoming)) ∙ whole.free

-- nothing refuses the set of a commit
commit_free : (s : Mote) (f : Frame) → IsLinkedWhole s → commits s f ≡ true → link_cause (step s f).mote.current.set ≡ None
commit_free s f whole = each_row s f (λ x. (not s.standing && x.mote.standing) ≡ true → link_cause x.mote.current.set ≡ None) (record {
  refused = λ a served said commits. absurd (no_commit s.standing commits);
  repeated = λ stands commits. absurd (no_commit s.standing commits);
  booted = λ commits. absurd (false≢true (and_parts (not s.standing) false commits).1);
  manifest = λ calm faultless above commits. absurd (no_commit s.standing commits);
  piece = λ m p k page bytes calm is at new fits said commits. absurd (no_commit s.standing commits);
  linked = λ m calm is unlinked faultless free commits. absurd (no_commit s.standing commits);
  committed = λ m calm is linked commits. free_incoming s m is (whole linked);
  aborted = λ calm commits. absurd (no_commit s.standing commits);
})

-- and of each of a run
commits_free : (s : Mote) (fs : List Frame) → IsLinkedWhole s → AllByRecursion (λ c. link_cause c.set ≡ None) (commits_from s fs)
commits_free s [] whole = tt
commits_free s (f ∷ fs) whole = one (commits s f) refl (commits_free (step s f).mote fs (keeps_whole s f whole))
  where
    one : (b : Bool) → commits s f ≡ b → AllByRecursion (λ c. link_cause c.set ≡ None) (commits_from (step s f).mote fs)
        → AllByRecursion (λ c. link_cause c.set ≡ None) (cond b ((step s f).mote.current ∷ commits_from (step s f).mote fs) (commits_from (step s f).mote fs))
    one true is rest = (commit_free s f whole is, rest)
    one false is rest = rest

pub commits_are_whole : CommitsAreWhole
commits_are_whole = record { step = keeps_whole; run = λ s fs. run_keeps_whole s (boot_frame ∷ fs); commits = λ s fs. commits_free s (boot_frame ∷ fs) }

-- ---- what boots

pub only_commits_choose : OnlyCommitsChoose
only_commits_choose s f = each_row s f (λ x. (not s.standing && x.mote.standing) ≡ false → x.mote.current ≡ s.current) (record {
  refused = λ a served said none. refl;
  repeated = λ stands none. refl;
  booted = λ none. refl;
  manifest = λ calm whole above none. refl;
  piece = λ m p k page bytes calm is at new fits said none. refl;
  linked = λ m calm is unlinked whole free none. refl;
  committed = λ m calm is linked none. absurd (both_ways (not s.standing && true) none (and_from (not s.standing) true (not_from_false s.standing calm) refl));
  aborted = λ calm none. refl;
})
