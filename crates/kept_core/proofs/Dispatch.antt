-- What serves a frame, by its type.
use Rattle.std.proofs.Common.{◌≡◌, sym, ap, ◌∙◌, subst}
use Rattle.flash_pages.specs.Board.{View}
use Rattle.flash_pages.specs.Moments.{LeavesOnly}
use Rattle.component_package.specs.declared.answer.Answer.{Answer}
use Rattle.component_package.specs.mote.Frames.{Frame}
use Rattle.kept_definitions.specs.Machine.{Mote, step, refuses}
use Rattle.component_package.specs.mote.Machine.{boot_frame}
use Rattle.kept_journal.specs.declared.standing.Standing.{Standing}
use Rattle.kept_journal.specs.Standing.{IsOfMote}
use Rattle.kept_sessions.specs.Turns.{programs_of}
use Rattle.kept_core.specs.Serving.{Serves, IsServed, LeavesWork, DoesWork}
use Rattle.kept_core.specs.Frames.{LeavesKnown, DoesKnown, LeavesRead, DoesRead}
use Rattle.kept_core.proofs.Works.{idle, served_so}

-- a frame of this type with its payload is that frame
module _ (a : Standing) (f h : Frame) (same : f ≡ h) (old new : View) where
  pub known_works : LeavesKnown a h old new → LeavesRead a f old new
  known_works works z t told stands is read = subst (λ (k : Frame). LeavesOnly (Serves t k z) (programs_of k) old new) (sym same) (works z t told stands is)

  pub known_does : (answer : Answer) → DoesKnown a h old new answer → DoesRead a f old new answer
  known_does answer does z t told stands is read = subst (λ (k : Frame). IsServed t k answer z new) (sym same) (does z t told stands is)

  pub read_works : LeavesRead a h old new → LeavesRead a f old new
  read_works works z t told stands is read = subst (λ (k : Frame). LeavesOnly (Serves t k z) (programs_of k) old new) (sym same) (works z t told stands is read)

  pub read_does : (answer : Answer) → DoesRead a h old new answer → DoesRead a f old new answer
  read_does answer does z t told stands is read = subst (λ (k : Frame). IsServed t k answer z new) (sym same) (does z t told stands is read)

-- nothing is done, and this is the machine's answer to a frame that changes nothing
pub tells_works : (a : Standing) (f : Frame) (v : View) → LeavesRead a f v v
tells_works a f v z t told stands is read = idle t f z (programs_of f) v told stands

pub tells_does : (a : Standing) (f h : Frame) (v : View) (answer : Answer) → f ≡ h → ((t : Mote) → IsOfMote t a → answer ≡ (step t h).answer) → ((t : Mote) → step t h ≡ refuses t (step t h).answer) → DoesRead a f v v answer
tells_does a f h v answer same tells stays z t told stands is read =
    subst (λ (k : Frame). IsServed t k answer z v) (sym same)
    (served_so t h answer z v told stands (stays t ∙ ap (refuses t) (sym (tells t is))))

-- BOOT
pub boot_works_too : (f : Frame) → f ≡ boot_frame → (old new : View) → LeavesWork boot_frame old new → LeavesWork f old new
boot_works_too f same old new works z t told stands = subst (λ (k : Frame). LeavesOnly (Serves t k z) (programs_of k) old new) (sym same) (works z t told stands)

pub boot_does_too : (f : Frame) → f ≡ boot_frame → (old new : View) (a : Answer) → DoesWork boot_frame old new a → DoesWork f old new a
boot_does_too f same old new a does z t told stands = subst (λ (k : Frame). IsServed t k a z new) (sym same) (does z t told stands)
