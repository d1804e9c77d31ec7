-- What ABORT and COMMIT do.
use Rattle.std.proofs.Common.{◌≡◌, ⊎_elim, ℕ, true, false, refl, sym, ap, ◌∙◌, subst, arith, Some}
use Rattle.flash_pages.specs.State.{State, ext_pages}
use Rattle.flash_pages.specs.Board.{View}
use Rattle.flash_pages.specs.Moments.{LeavesOnly}
use Rattle.flash_pages.proofs.Runs.{weaker}
use Rattle.component_package.specs.declared.answer.Answer.TheVariants.{Aborted, Committed}
use Rattle.kept_definitions.specs.Stored.{StoredRelease}
use Rattle.kept_definitions.specs.Headline.{StandsFor}
use Rattle.kept_definitions.specs.Machine.{Mote, Step as MachineStep}
use Rattle.kept_laws.specs.Steps.{with_gate, other_go}
use Rattle.mote_laws.specs.Stands.{commit_frame}
use Rattle.kept_sessions.specs.Sessions.{shown}
use Rattle.kept_sessions.proofs.Kept.{frames_leave}
use Rattle.kept_journal.specs.Steps.{parts, Stands, Step, CommitStep, Takes, Becomes, any_mote, abandons, abandoned, IsLinked, commits, one_page}
use Rattle.kept_core.specs.Frames.{abort_frame}
use Rattle.kept_core.specs.Serving.{Serves, Kept, IsServed}
use Rattle.kept_core.proofs.Works.{first_part, step_keeps}
use Rattle.kept_core.proofs.Rows.{abort_row, commit_answer}

pub abort_works : (z : State) (t : Mote) (old new : View) → Stands z t → Takes (Step any_mote (ext_pages 1 4) z) (ext_pages 1 4) 4 old new → LeavesOnly (Serves t abort_frame z) 4 old new
abort_works z t old new stands takes =
    first_part t abort_frame (ext_pages 1 4) z (λ place no. no) (λ rests page. refl) 4 4 old new (omega arith) stands
    (weaker (Step any_mote (ext_pages 1 4) z) (Kept (ext_pages 1 4) z) 4 4 old new (omega arith) (λ x took. step_keeps any_mote (ext_pages 1 4) t z x took stands tt) takes.leaves)

pub abort_does : (z : State) (t : Mote) (new : View) → Stands z t → t.standing ≡ false → Becomes (abandoned (parts z)) any_mote abandons z new → IsServed t abort_frame Aborted z new
abort_does z t new stands rests becomes = record {
  end = becomes.end;
  told = becomes.told;
  mote = subst (λ (x : MachineStep). StandsFor (parts becomes.end) x.mote) (sym (abort_row t rests)) (becomes.stands t stands tt).mote;
  answer = ap (λ (x : MachineStep). x.answer) (sym (abort_row t rests));
  refused = λ refusal. absurd (let q : ⊥ = cc in q);
}

commit_leaves : (z x : State) (t : Mote) → Stands z t → t.linked ≡ true → CommitStep (one_page (other_go (parts z))) z x → Serves t commit_frame z x
commit_leaves z x t stands linked took = record {
  works = ⊎_elim
      (λ before. frames_leave.either t commit_frame (shown z) (shown x) false (took.sound t stands linked) before (λ rests. took.prog) took.pages.sent)
      (λ behind. frames_leave.either t commit_frame (shown z) (shown x) true (took.sound t stands linked) behind (λ rests. took.prog) took.pages.sent)
      (took.mote t stands linked);
  pages = took.pages;
}

pub commit_works : (z : State) (t : Mote) (old new : View) → Stands z t → t.linked ≡ true → Takes (CommitStep (one_page (other_go (parts z))) z) (one_page (other_go (parts z))) 1 old new
    → LeavesOnly (Serves t commit_frame z) 1 old new
commit_works z t old new stands linked takes =
    weaker (CommitStep (one_page (other_go (parts z))) z) (Serves t commit_frame z) 1 1 old new (omega arith) (λ x took. commit_leaves z x t stands linked took) takes.leaves

pub commit_does : (z : State) (t : Mote) (m : StoredRelease) (n : ℕ) (new : View) → Stands z t → t.standing ≡ false → t.incoming ≡ Some m → t.linked ≡ true → n ≡ m.number
    → Becomes (with_gate (other_go (parts z)) true (parts z)) IsLinked commits z new → IsServed t commit_frame (Committed n) z new
commit_does z t m n new stands rests coming linked is becomes = record {
  end = becomes.end;
  told = becomes.told;
  mote = (becomes.stands t stands linked).mote;
  answer = ap (λ (k : ℕ). Committed k) is ∙ sym (commit_answer t m rests coming linked);
  refused = λ refusal. absurd (let q : ⊥ = cc in q);
}
