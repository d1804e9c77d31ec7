-- What BOOT does.
use Rattle.std.proofs.Common.{ℕ, ◌≤◌, ◌&&◌, Bool, true, false, sym, ap, ◌∙◌, arith}
use Rattle.flash_pages.specs.State.{State}
use Rattle.flash_pages.specs.Board.{View}
use Rattle.flash_pages.specs.Moments.{LeavesOnly}
use Rattle.flash_pages.proofs.Runs.{weaker}
use Rattle.component_package.specs.declared.answer.Answer.TheVariants.{Booted}
use Rattle.kept_definitions.specs.Sides.{is_pending}
use Rattle.kept_definitions.specs.Machine.{Mote}
use Rattle.component_package.specs.mote.Machine.{boot_frame}
use Rattle.kept_journal.specs.Steps.{parts, Stands, Step, Takes, Becomes, any_mote, boots}
use Rattle.kept_boot.specs.Boots.{booted, boot_pages, boot_programs, HasStarted}
use Rattle.kept_core.specs.Serving.{Serves, Kept, IsServed}
use Rattle.kept_core.proofs.Works.{first_part, step_keeps}

few_programs : (b : Bool) → boot_programs b ≤ 1110
few_programs true = omega arith
few_programs false = omega arith

-- what a cut in it may leave
pub boot_works : (z : State) (t : Mote) (old new : View) → Stands z t
    → Takes (Step any_mote (boot_pages (parts z)) z) (boot_pages (parts z)) (boot_programs (is_pending (parts z))) old new
    → LeavesOnly (Serves t boot_frame z) 1110 old new
boot_works z t old new stands takes =
    let pages = boot_pages (parts z) in
    first_part t boot_frame pages z (λ place no. no) (λ rests page. ap (λ (b : Bool). b && true) (sym stands.mote.standing ∙ rests)) (boot_programs (is_pending (parts z))) 1110 old new (few_programs (is_pending (parts z))) stands
    (weaker (Step any_mote pages z) (Kept pages z) (boot_programs (is_pending (parts z))) (boot_programs (is_pending (parts z))) old new (omega arith) (λ x took. step_keeps any_mote pages t z x took stands tt) takes.leaves)

-- the release that it started
pub boot_does : (z : State) (t : Mote) (new : View) (release : ℕ) → Stands z t → Becomes (booted z) any_mote boots z new → HasStarted t release new → IsServed t boot_frame (Booted release) z new
boot_does z t new release stands becomes started = record {
  end = becomes.end;
  told = becomes.told;
  mote = (becomes.stands t stands tt).mote;
  answer = ap (λ (n : ℕ). Booted n) started.number;
  refused = λ refusal. absurd (let q : ⊥ = cc in q);
}
