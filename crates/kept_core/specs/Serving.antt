-- What serving one frame does to a board that tells a sound state.
use Rattle.std.specs.Prelude.{◌≡◌, ◌⊎◌, ℕ, ◌+◌, ◌*◌, ◌==◌, ◌&&◌, ◌||◌, nat_le, Bool, true, false, if◌then◌else◌, List, Option, Some, None, slice_get, slice_index}
use Rattle.std.specs.Option.{option_and_then}
use Rattle.flash_pages.specs.State.{State, Place, Prog, Ext, OnlyPages, ext_pages}
use Rattle.flash_pages.specs.Board.{View}
use Rattle.flash_pages.specs.Moments.{LeavesOnly}
use Rattle.component_package.specs.declared.answer.Answer.{Answer}
use Rattle.component_package.specs.declared.answer.Answer.TheVariants as answers
use Rattle.kept_definitions.specs.Sides.{Parts, chosen_side}
use Rattle.component_package.specs.mote.Sides.{fmt, go_a, go_b, sel}
use Rattle.kept_definitions.specs.Headline.{StandsFor}
use Rattle.kept_definitions.specs.Stored.{Placed}
use Rattle.component_package.specs.mote.Frames.{Frame, is_end}
use Rattle.kept_definitions.specs.Machine.{Mote, step}
use Rattle.component_package.specs.mote.Machine.{is_bad_frame}
use Rattle.kept_laws.specs.Steps.{other_go, Keeps}
use Rattle.mote_laws.specs.Runs.{is_refusal}
use Rattle.kept_laws.specs.Standing.{IsUnformatted}
use Rattle.kept_sessions.specs.Kept.{Works}
use Rattle.kept_sessions.specs.Sessions.{shown}
use Rattle.kept_sessions.specs.Turns.{programs_of}
use Rattle.kept_journal.specs.Steps.{parts, Stands, manifest_pages, one_page}
use Rattle.kept_boot.specs.Boots.{boot_pages}

-- ---- pages that a frame may change

-- no page
abbrev pub no_pages : Place → Bool
no_pages place = false

-- the gates from Sym to Img, and page `page` of the package that an entry says
abbrev pub piece_pages : Option Placed → ℕ → Place → Bool
piece_pages None page place = false
piece_pages (Some p) page (Prog q) = false
piece_pages (Some p) page (Ext q) = (nat_le 2 q && nat_le q 4) || q == 786 + 39 * p.slot + page

-- the gates from Sym to Img, and the areas that they vouch for
abbrev pub link_pages : Place → Bool
link_pages (Prog q) = false
link_pages (Ext q) = (nat_le 2 q && nat_le q 4) || (nat_le 18 q && nat_le q 785)

-- the entry of what comes in that a piece is of
abbrev pub entry_of_piece : Mote → List ℕ → Option Placed
entry_of_piece t payload = option_and_then (λ m. slice_get m.placed (slice_index payload 0)) t.incoming

-- the pages that a frame may change, of a state z that stands for the mote t
abbrev pub may_change : Mote → State → Frame → Place → Bool
may_change t z f =
    if f.kind == 1 then manifest_pages (parts z)
    else if f.kind == 2 then piece_pages (entry_of_piece t f.payload) (slice_index f.payload 1)
    else if f.kind == 3 then link_pages
    else if f.kind == 4 then one_page (other_go (parts z))
    else if f.kind == 5 then boot_pages (parts z)
    else if f.kind == 7 then ext_pages 1 4
    else no_pages

-- ---- what a cut may leave

-- what a cut in the work of a frame may leave of z, which stands for the mote t: the mote as before it or behind it, and only pages changed that the frame
-- may change
pub record Serves (t : Mote) (f : Frame) (z x : State) : Type 0 where
  pub works : Works t f (shown z) (shown x)
  pub pages : OnlyPages (may_change t z f) z x

abbrev pub LeavesWork : Frame → View → View → Type 0
LeavesWork f old new = (z : State) (t : Mote) → old.state ≡ Some z → Stands z t → LeavesOnly (Serves t f z) (programs_of f) old new

-- ---- what was done

-- the causes that LINK finds once it has begun to make the areas
abbrev pub is_late_cause : Answer → Bool
is_late_cause (answers.Duplicate s i j) = true
is_late_cause (answers.Undefined k r s) = true
is_late_cause (answers.Range k r c) = true
is_late_cause a = false

-- a refusal left program flash and the chosen side as they were, and changed nothing at all but that LINK may have made areas and opened their gates
pub record IsRefused (a : Answer) (z x : State) : Type 0 where
  pub prog : x.prog ≡ z.prog
  pub side : chosen_side (parts x) ≡ chosen_side (parts z)
  pub same : is_late_cause a ≡ false → x ≡ z

-- the frame was served from z, which stands for the mote t: the answer is the machine's, and so is the mote that the board now stands for
pub record IsServed (t : Mote) (f : Frame) (a : Answer) (z : State) (v : View) : Type 0 where
  pub end : State
  pub told : v.state ≡ Some end
  pub mote : StandsFor (parts end) (step t f).mote
  pub answer : a ≡ (step t f).answer
  pub refused : is_refusal a ≡ true → IsRefused a z end

abbrev pub DoesWork : Frame → View → View → Answer → Type 0
DoesWork f old new a = (z : State) (t : Mote) → old.state ≡ Some z → Stands z t → IsServed t f a z new

-- a boot was answered so exactly where there is nothing to boot
abbrev pub TellsFormatted : Answer → Parts → Type 0
TellsFormatted a p = (a ≡ answers.Unformatted → IsUnformatted p) × (IsUnformatted p → a ≡ answers.Unformatted)

-- ---- on any board that tells its state, sound or not

-- the gates and the sides that say what boots are as they were
pub record BootsAlike (p q : Parts) : Type 0 where
  pub fmt_is : q.gates fmt ≡ p.gates fmt
  pub go_a_is : q.gates go_a ≡ p.gates go_a
  pub go_b_is : q.gates go_b ≡ p.gates go_b
  pub sel_is : q.gates sel ≡ p.gates sel
  pub side_a_is : q.side_a ≡ p.side_a
  pub side_b_is : q.side_b ≡ p.side_b

-- there is something to boot, if there was
pub record StaysFormatted (z : State) (v : View) : Type 0 where
  pub end : State
  pub told : v.state ≡ Some end
  pub stays : IsUnformatted (parts end) → IsUnformatted (parts z)

-- Unformatted answers exactly the frames that aren't bad where there is nothing to boot; and no frame brings that about.
pub record AnswersFormatted (f : Frame) (a : Answer) (z : State) (v : View) : Type 0 where
  pub only : a ≡ answers.Unformatted → (is_bad_frame f ≡ false) × IsUnformatted (parts z)
  pub always : is_bad_frame f ≡ false → IsUnformatted (parts z) → a ≡ answers.Unformatted
  pub stays : StaysFormatted z v

-- on every board, Ended answers END alone, and END is answered so or Unformatted
pub record AnswersEnd (f : Frame) (a : Answer) : Type 0 where
  pub only : a ≡ answers.Ended → is_end f ≡ true
  pub always : is_end f ≡ true → (a ≡ answers.Ended) ⊎ (a ≡ answers.Unformatted)

-- ---- parts of the work of a frame

-- what a cut in a part of it may leave of s: the mote sound and its choice as it was, and only these pages changed
pub record Kept (may : Place → Bool) (s x : State) : Type 0 where
  pub pages : OnlyPages may s x
  pub prog : ((page : ℕ) → may (Prog page) ≡ false) → x.prog ≡ s.prog
  pub keeps : Keeps (parts s) (parts x)
