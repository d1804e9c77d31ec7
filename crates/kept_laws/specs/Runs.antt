-- What the mote machine of layout 2 keeps, step by step and over a session.
use Rattle.std.specs.Prelude.{◌≡◌, ◌≢◌, ℕ, ◌<◌, true, false, List, [], ◌∷◌, length, Option, Some, None, ◌++◌}
use Rattle.std.specs.List.{AllByRecursion}
use Rattle.component_package.specs.declared.answer.Answer.TheVariants as answers
use Rattle.kept_definitions.specs.Stored.{StoredRelease}
use Rattle.component_package.specs.link.Link.{link_cause}
use Rattle.kept_definitions.specs.Kept.{Chosen, set_fault, coming_set}
use Rattle.mote_laws.specs.Runs.{is_refusal, is_served}
use Rattle.component_package.specs.mote.Frames.{Frame}
use Rattle.component_package.specs.mote.Machine.{boot_frame}
use Rattle.kept_definitions.specs.Machine.{Mote, step, session_mote, session_commits, session_answers, mote_from, answers_from, commits_from, commits}

-- ---- refusals

-- A refusal changes nothing.
abbrev pub RefusalsChangeNothing : Type 0
RefusalsChangeNothing = (s : Mote) (f : Frame) → is_refusal (step s f).answer ≡ true → (step s f).mote ≡ s

-- Each frame has its answer, and a session one for its boot and one for each frame.
pub record MachineIsTotal : Type 0 where
  pub serves : (s : Mote) (f : Frame) → is_served (step s f).answer ≡ true
  pub all : (s : Mote) (fs : List Frame) → length (session_answers s fs) ≡ length (boot_frame ∷ fs)

-- ---- what an answer may change

-- what becomes of a mote where its answer isn't the one that changes this
pub record OnlyItsAnswerChanges : Type 0 where
  -- the release that boots, and that no commit stands
  pub current : (s : Mote) (f : Frame) → ((n : ℕ) → (step s f).answer ≢ answers.Committed n) → (step s f).mote.current ≡ s.current
  pub standing : (s : Mote) (f : Frame) → s.standing ≡ false → ((n : ℕ) → (step s f).answer ≢ answers.Committed n) → (step s f).mote.standing ≡ false
  -- what comes in
  pub incoming : (s : Mote) (f : Frame) → ((n h : ℕ) → (step s f).answer ≢ answers.ManifestIs n h) → ((n : ℕ) → (step s f).answer ≢ answers.Committed n)
      → (step s f).answer ≢ answers.Aborted → (step s f).mote.incoming ≡ s.incoming
  -- the inbox
  pub inbox : (s : Mote) (f : Frame) → ((k page : ℕ) → (step s f).answer ≢ answers.Piece k page) → (step s f).mote.inbox ≡ s.inbox
  -- that a commit stands, until a boot
  pub until_boot : (s : Mote) (f : Frame) → s.standing ≡ true → ((n : ℕ) → (step s f).answer ≢ answers.Booted n) → (step s f).mote ≡ s

-- `committed` and `booted` name the current release, which stands to be installed, or was.
pub record AnswersTellTheCurrent : Type 0 where
  pub committed : (s : Mote) (f : Frame) (n : ℕ) → (step s f).answer ≡ answers.Committed n → ((step s f).mote.current.release.number ≡ n) × ((step s f).mote.standing ≡ true)
  pub booted : (s : Mote) (f : Frame) (n : ℕ) → (step s f).answer ≡ answers.Booted n → ((step s f).mote.current.release.number ≡ n) × ((step s f).mote.standing ≡ false)

-- ---- runs one after another

-- A run over frames and then more frames is the two runs, one behind the other.
pub record RunsJoin : Type 0 where
  pub mote : (s : Mote) (fs gs : List Frame) → mote_from s (fs ++ gs) ≡ mote_from (mote_from s fs) gs
  pub answers : (s : Mote) (fs gs : List Frame) → answers_from s (fs ++ gs) ≡ answers_from s fs ++ answers_from (mote_from s fs) gs
  pub commits : (s : Mote) (fs gs : List Frame) → commits_from s (fs ++ gs) ≡ commits_from s fs ++ commits_from (mote_from s fs) gs

-- ---- releases rise

-- a release that comes in is above this one
abbrev pub IsAbove : ℕ → Option StoredRelease → Type 0
IsAbove current None = Unit {0}
IsAbove current (Some m) = current < m.number

-- the release that comes in, if any, is above the one that boots
abbrev pub IsRising : Mote → Type 0
IsRising s = IsAbove s.current.release.number s.incoming

-- releases rise strictly, from above this one on
abbrev pub ReleasesRise : ℕ → List Chosen → Type 0
ReleasesRise low [] = Unit {0}
ReleasesRise low (c ∷ cs) = (low < c.release.number) × ReleasesRise c.release.number cs

-- Each step keeps a mote rising, and so the releases of a session's commits rise strictly from the one at entry. `stale` is what keeps it: a machine
-- that took a manifest of the current release again could go back to it after a later one.
pub record CommitsRise : Type 0 where
  pub step : (s : Mote) (f : Frame) → IsRising s → IsRising (step s f).mote
  pub run : (s : Mote) (fs : List Frame) → IsRising s → IsRising (session_mote s fs)
  pub commits : (s : Mote) (fs : List Frame) → IsRising s → ReleasesRise s.current.release.number (session_commits s fs)

-- ---- what is linked is whole

-- the release that comes in is whole, and nothing refuses its set
pub record IsWhole (s : Mote) : Type 0 where
  pub release : StoredRelease
  pub incoming : s.incoming ≡ Some release
  pub faultless : set_fault s.inbox release ≡ None
  pub free : link_cause (coming_set s.current s.inbox release) ≡ None

-- a mote is linked only where that holds
abbrev pub IsLinkedWhole : Mote → Type 0
IsLinkedWhole s = s.linked ≡ true → IsWhole s

-- Each step keeps a mote so, and thus nothing refuses a set that a session commits. A piece that left a mote linked would commit what was never linked.
pub record CommitsAreWhole : Type 0 where
  pub step : (s : Mote) (f : Frame) → IsLinkedWhole s → IsLinkedWhole (step s f).mote
  pub run : (s : Mote) (fs : List Frame) → IsLinkedWhole s → IsLinkedWhole (session_mote s fs)
  pub commits : (s : Mote) (fs : List Frame) → IsLinkedWhole s → AllByRecursion (λ c. link_cause c.set ≡ None) (session_commits s fs)

-- What boots changes where a commit comes to stand, and nowhere else: no step but that one touches it.
abbrev pub OnlyCommitsChoose : Type 0
OnlyCommitsChoose = (s : Mote) (f : Frame) → commits s f ≡ false → (step s f).mote.current ≡ s.current
