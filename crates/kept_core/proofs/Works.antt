-- How the work of a frame is put together from the steps of the crates below.
use Rattle.std.proofs.Common.{◌≡◌, ℕ, ◌+◌, ◌≤◌, Bool, false, Some, refl, sym, ap, subst, arith}
use Rattle.flash_pages.specs.State.{State, Place, Prog}
use Rattle.flash_pages.specs.Board.{View, Reads}
use Rattle.flash_pages.specs.Moments.{LeavesOnly}
use Rattle.flash_pages.proofs.Runs.{starts, follows, weaker, at_end, reads}
use Rattle.flash_pages.proofs.Pages.{only_starts, only_only}
use Rattle.component_package.specs.declared.answer.Answer.{Answer}
use Rattle.kept_definitions.specs.Headline.{StandsFor}
use Rattle.component_package.specs.mote.Frames.{Frame}
use Rattle.kept_definitions.specs.Machine.{Mote, Step as MachineStep, step, refuses}
use Rattle.kept_sessions.specs.Sessions.{shown}
use Rattle.kept_sessions.proofs.Kept.{frames_leave}
use Rattle.kept_journal.specs.Steps.{parts, Stands, Step}
use Rattle.kept_core.specs.Serving.{may_change, Serves, Kept, IsServed}

-- the pages that a part of the work may change are the frame's
abbrev pub Within : (Place → Bool) → (Place → Bool) → Type 0
Within may all = (place : Place) → all place ≡ false → may place ≡ false

-- ---- states

-- nothing was done yet
pub begins : (t : Mote) (f : Frame) (z : State) → Stands z t → Serves t f z z
begins t f z stands = record {
  works = frames_leave.starts t f (shown z) stands.sound stands.mote;
  pages = only_starts (may_change t z f) z;
}

-- a step of the journal that is meant for this mote
pub step_keeps : (meant : Mote → Type 0) (may : Place → Bool) (t : Mote) (s x : State) → Step meant may s x → Stands s t → meant t → Kept may s x
step_keeps meant may t s x took stands is_meant = record { pages = took.pages; prog = took.prog; keeps = took.keeps t stands is_meant }

-- behind some of the work of a frame, more of it
pub then_kept : (t : Mote) (f : Frame) (may : Place → Bool) (z w x : State) → Within may (may_change t z f) → (t.standing ≡ false → (page : ℕ) → may (Prog page) ≡ false)
    → Serves t f z w → Kept may w x → Serves t f z x
then_kept t f may z w x within no_prog was kept = record {
  works = frames_leave.keeps t f (shown z) (shown w) (shown x) was.works kept.keeps (λ rests. kept.prog (no_prog rests)) kept.pages.sent;
  pages = only_only (may_change t z f) (may_change t z f) z w x (λ place no. no) was.pages
      (record { sent = kept.pages.sent; page = λ place no. kept.pages.page place (within place no) });
}

-- ---- runs

-- before the first call
pub idle : (t : Mote) (f : Frame) (z : State) (n : ℕ) (old : View) → old.state ≡ Some z → Stands z t → LeavesOnly (Serves t f z) n old old
idle t f z n old told stands = weaker (Serves t f z) (Serves t f z) 0 n old old (omega arith) (λ x here. here) (starts (Serves t f z) old z told (begins t f z stands))

-- a read
pub only_read : (t : Mote) (f : Frame) (z : State) (n : ℕ) (old new : View) → old.state ≡ Some z → Stands z t → Reads old new → LeavesOnly (Serves t f z) n old new
only_read t f z n old new told stands read = reads (Serves t f z) n old old new (idle t f z n old told stands) read

-- a read, and then work from the same state
pub weaker_read : (t : Mote) (f : Frame) (z : State) (m n : ℕ) (old mid new : View) → old.state ≡ Some z → Stands z t → Reads old mid → m ≤ n → LeavesOnly (Serves t f z) m mid new
    → LeavesOnly (Serves t f z) n old new
weaker_read t f z m n old mid new told stands read few run =
    weaker (Serves t f z) (Serves t f z) (0 + m) n old new (omega arith) (λ x here. here)
    (follows (Serves t f z) 0 m old mid new (only_read t f z 0 old mid told stands read) run)

module _ (t : Mote) (f : Frame) (may : Place → Bool) (z : State) (within : Within may (may_change t z f)) (no_prog : t.standing ≡ false → (page : ℕ) → may (Prog page) ≡ false) where
  -- the first part of the work
  pub first_part : (m n : ℕ) (old new : View) → m ≤ n → Stands z t → LeavesOnly (Kept may z) m old new → LeavesOnly (Serves t f z) n old new
  first_part m n old new few stands run =
      weaker (Kept may z) (Serves t f z) m n old new few (λ x kept. then_kept t f may z z x within no_prog (begins t f z stands) kept) run

  -- a part behind others
  pub next_part : (m n : ℕ) (w : State) (old mid new : View) → mid.state ≡ Some w → LeavesOnly (Serves t f z) m old mid → LeavesOnly (Kept may w) n mid new
      → LeavesOnly (Serves t f z) (m + n) old new
  next_part m n w old mid new told first run =
      let here = at_end (Serves t f z) m old mid w first told in
      follows (Serves t f z) m n old mid new first
      (weaker (Kept may w) (Serves t f z) n n mid new (omega arith) (λ x kept. then_kept t f may z w x within no_prog here kept) run)

-- ---- answers

-- nothing was changed, and the machine refuses too
pub served_so : (t : Mote) (f : Frame) (a : Answer) (z : State) (new : View) → new.state ≡ Some z → Stands z t → step t f ≡ refuses t a → IsServed t f a z new
served_so t f a z new told stands is = record {
  end = z;
  told = told;
  mote = subst (λ (x : MachineStep). StandsFor (parts z) x.mote) (sym is) stands.mote;
  answer = ap (λ (x : MachineStep). x.answer) (sym is);
  refused = λ refusal. record { prog = refl; side = refl; same = λ early. refl };
}
