-- Gates that are opened: those of stages, Sel and a Go gate.
use Rattle.std.proofs.Common.{◌≡◌, ◌⊎◌, inl, inr, ⊎_elim, ℕ, Bool, true, false, cond, not, Some, refl, sym as flip, ap, ◌∙◌, subst, arith}
use Rattle.std.proofs.lemmas.Bool.Decides.{nat_tests}
use Rattle.flash_pages.specs.State.{State, MayHold}
use Rattle.flash_pages.specs.Board.{View, Reads, Programs}
use Rattle.flash_pages.proofs.Pages.{only_starts, only_programs}
use Rattle.flash_pages.proofs.Runs.{starts, programs}
use Rattle.external_flash.specs.declared.Gate.{Gate}
use Rattle.external_flash.specs.declared.Gate.TheVariants.{Sel}
use Rattle.external_flash.specs.Gates.{gate_page, gate_place, IsShut, opened}
use Rattle.kept_definitions.specs.Sides.{Parts, is_on_b, is_pending}
use Rattle.component_package.specs.mote.Sides.{sel}
use Rattle.kept_definitions.specs.Sound.{IsSound}
use Rattle.kept_definitions.specs.Machine.{Mote, step}
use Rattle.kept_definitions.specs.Headline.{StandsFor}
use Rattle.kept_laws.specs.Steps.{with_gate, other_go, Keeps}
use Rattle.mote_laws.specs.Stands.{commit_frame}
use Rattle.kept_laws.proofs.Steps.{opening_keeps, selecting_keeps, commit_is_whole}
use Rattle.kept_laws.proofs.Stands.{resting_steps_stand, standing_steps_stand, cut_commit_is_whole, calm_where_linked}
use Rattle.kept_journal.specs.declared.gates.Stage.{Stage}
use Rattle.kept_journal.specs.declared.gates.Stage.TheVariants.{Symbols, Relocs, Image}
use Rattle.kept_journal.specs.Steps.{parts, Stands, Step, CommitStep, Takes, Becomes, Rests, Pends, IsLinked, stays, marks, commits, stage_gate, Vouches, one_page}
use Rattle.kept_journal.proofs.Bridge.{gate_known, parts_opened, gate_step}
use Rattle.kept_journal.proofs.Takes.{takes_none, takes_gate, takes_read, takes_more, becomes}

-- the page of a gate is the one that may change
pub is_one_page : (page : ℕ) (gate : Gate) → gate_page gate ≡ page → one_page page (gate_place gate) ≡ true
is_one_page page gate is = grind (arith, nat_tests)

-- ---- stages

-- a stage's gate may be opened where what it vouches for holds
opens_stage : (stage : Stage) (p : Parts) (b : Bool) → IsSound p → is_pending p ≡ false → p.gates (stage_gate stage) ≡ false → Vouches stage p → Keeps p (with_gate (stage_gate stage) b p)
opens_stage Symbols p b sound calm shut holds = opening_keeps.symbols p b sound calm shut holds.incoming holds.set holds.cause holds.table
opens_stage Relocs p b sound calm shut holds = opening_keeps.relocs p b sound calm shut holds.merged holds.cause holds.list
opens_stage Image p b sound calm shut holds = opening_keeps.image p b sound calm shut holds.listed holds.image

stage_stands : (stage : Stage) (p : Parts) (t : Mote) → StandsFor p t → t.standing ≡ false → StandsFor (with_gate (stage_gate stage) true p) (marks stage t)
stage_stands Symbols p t stands rests = resting_steps_stand.symbols p t true stands
stage_stands Relocs p t stands rests = resting_steps_stand.relocs p t true stands
stage_stands Image p t stands rests = resting_steps_stand.linked p t stands (flip stands.standing ∙ rests)

module _ (a b : View) (s : State) (stage : Stage) (gate : Gate) (told : a.state ≡ Some s) (page : gate_page gate ≡ stage_gate stage) (opens : Programs (IsShut gate) (gate_place gate) a b) where
  abbrev meant : Mote → Type 0
  meant t = Rests t × Vouches stage (parts s)

  pub kept_stage : Takes (Step meant (one_page (stage_gate stage)) s) (one_page (stage_gate stage)) 1 a b
  kept_stage = takes_gate meant (one_page (stage_gate stage)) 0 (IsShut gate) gate a a b s s (takes_none meant (one_page (stage_gate stage)) a s told) told (is_one_page (stage_gate stage) gate page) opens
      (λ on need u stands is sound. subst (λ (n : ℕ). Keeps (parts s) (with_gate n on (parts s))) (flip page)
      (opens_stage stage (parts s) on sound (flip stands.mote.standing ∙ is.0) (subst (λ (n : ℕ). (parts s).gates n ≡ false) page (gate_known gate s ∙ need)) is.1))

  pub stage_marked : b.state ≡ Some (opened gate s) → Becomes (with_gate (stage_gate stage) true (parts s)) meant (marks stage) s b
  stage_marked told_b = becomes meant (one_page (stage_gate stage)) 1 (marks stage) (with_gate (stage_gate stage) true (parts s)) s (opened gate s) a b kept_stage told_b
      (parts_opened s gate (a.sizes s told) ∙ ap (λ (n : ℕ). with_gate n true (parts s)) page)
      (λ u stands is sound. stage_stands stage (parts s) u stands.mote is.0)

-- ---- Sel

module _ (a b : View) (s : State) (needed : State → Type 0) (told : a.state ≡ Some s) (program : Programs needed (gate_place Sel) a b) where
  pub kept_sel : Takes (Step Pends (one_page sel) s) (one_page sel) 1 a b
  kept_sel = takes_gate Pends (one_page sel) 0 needed Sel a a b s s (takes_none Pends (one_page sel) a s told) told refl program
      (λ on need u stands is sound. selecting_keeps (parts s) on sound (flip stands.mote.standing ∙ is))

  pub selected : (on : Bool) (x : State) → b.state ≡ Some x → parts x ≡ with_gate sel on (parts s) → Becomes (with_gate sel on (parts s)) Pends stays s b
  selected on x told_b is = becomes Pends (one_page sel) 1 stays (with_gate sel on (parts s)) s x a b kept_sel told_b is
      (λ u stands pends sound. standing_steps_stand.gate (parts s) u sel on stands.mote (flip stands.mote.standing ∙ pends) ((λ e. absurd (omega (arith, e))), (λ e. absurd (omega (arith, e)))))

-- ---- a commit

-- the Go gate of the side that isn't chosen
pub other_gate : (on_b : Bool) (p : Parts) (page : ℕ) → on_b ≡ is_on_b p → page ≡ cond (not on_b) 6 5 → page ≡ other_go p
other_gate true p page on is = is ∙ ap (λ (b : Bool). cond b 5 6) on
other_gate false p page on is = is ∙ ap (λ (b : Bool). cond b 5 6) on

-- a read before it
pub stays_go : (a b : View) (s : State) → a.state ≡ Some s → Reads a b → Takes (CommitStep (one_page (other_go (parts s))) s) (one_page (other_go (parts s))) 1 a b
stays_go a b s told read =
    let P : State → Type 0 = CommitStep (one_page (other_go (parts s))) s in
    let here : P s = record { pages = only_starts (one_page (other_go (parts s))) s; prog = refl; sound = λ t stands linked. stands.sound; mote = λ t stands linked. inl stands.mote } in
    takes_more P (one_page (other_go (parts s))) 0 1 a b (omega arith)
    (takes_read P (one_page (other_go (parts s))) 0 a a b (record { leaves = starts P a s told here; wears = λ place barred. refl }) read)

module _ (a b c : View) (s : State) (gate : Gate) (told : a.state ≡ Some s) (read : Reads a b) (page : gate_page gate ≡ other_go (parts s)) (opens : Programs (IsShut gate) (gate_place gate) b c) where
  -- the gate's page holds any bytes
  cut : (y : State) → MayHold (IsShut gate) (gate_place gate) s y → (t : Mote) → Stands s t → t.linked ≡ true → IsSound (parts y) × (StandsFor (parts y) t ⊎ StandsFor (parts y) (step t commit_frame).mote)
  cut y holds t stands linked =
      let calm = calm_where_linked (parts s) (flip stands.mote.linked ∙ linked) in
      let whole : (on : Bool) → IsSound (with_gate (other_go (parts s)) on (parts s)) = λ on. (commit_is_whole (parts s) on stands.sound calm.0 calm.1).sound in
      let mote : (on : Bool) → StandsFor (with_gate (other_go (parts s)) on (parts s)) t ⊎ StandsFor (with_gate (other_go (parts s)) on (parts s)) (step t commit_frame).mote = λ on. each on in
      gate_step (λ p. IsSound p × (StandsFor p t ⊎ StandsFor p (step t commit_frame).mote)) (IsShut gate) gate s y (a.sizes s told) (stands.sound, inl stands.mote)
      (λ on need. subst (λ (n : ℕ). IsSound (with_gate n on (parts s)) × (StandsFor (with_gate n on (parts s)) t ⊎ StandsFor (with_gate n on (parts s)) (step t commit_frame).mote)) (flip page) (whole on, mote on)) holds
    where
      each : (on : Bool) → StandsFor (with_gate (other_go (parts s)) on (parts s)) t ⊎ StandsFor (with_gate (other_go (parts s)) on (parts s)) (step t commit_frame).mote
      each true = inr (cut_commit_is_whole (parts s) t true stands.sound stands.mote linked)
      each false = inl (cut_commit_is_whole (parts s) t false stands.sound stands.mote linked)

  told_b : b.state ≡ Some s
  told_b = read.state ∙ told

  allowed : one_page (other_go (parts s)) (gate_place gate) ≡ true
  allowed = is_one_page (other_go (parts s)) gate page

  step_at : (y : State) → MayHold (IsShut gate) (gate_place gate) s y → CommitStep (one_page (other_go (parts s))) s y
  step_at y holds = record {
    pages = only_programs (one_page (other_go (parts s))) (IsShut gate) (gate_place gate) s s y (only_starts (one_page (other_go (parts s))) s) allowed holds;
    prog = ⊎_elim (λ same. ap (λ (x : State). x.prog) same) (λ spoilt. ap (λ (x : State). x.prog) spoilt.1.is) holds;
    sound = λ t stands linked. (cut y holds t stands linked).0;
    mote = λ t stands linked. (cut y holds t stands linked).1;
  }

  before : Takes (CommitStep (one_page (other_go (parts s))) s) (one_page (other_go (parts s))) 0 a b
  before = takes_read (CommitStep (one_page (other_go (parts s))) s) (one_page (other_go (parts s))) 0 a a b
      (record { leaves = starts (CommitStep (one_page (other_go (parts s))) s) a s told (step_at s (inl refl)); wears = λ place barred. refl }) read

  pub kept_go : Takes (CommitStep (one_page (other_go (parts s))) s) (one_page (other_go (parts s))) 1 a c
  kept_go = record {
    leaves = programs (CommitStep (one_page (other_go (parts s))) s) 0 (IsShut gate) (gate_place gate) a b c s (before.leaves) told_b opens step_at;
    wears = λ place barred. opens.others s place told_b (λ same. absurd (let e = flip barred ∙ ap (one_page (other_go (parts s))) same ∙ allowed in cc)) ∙ before.wears place barred;
  }

  pub committed_is : c.state ≡ Some (opened gate s) → Becomes (with_gate (other_go (parts s)) true (parts s)) IsLinked commits s c
  committed_is told_c =
      let is : parts (opened gate s) ≡ with_gate (other_go (parts s)) true (parts s) = parts_opened s gate (a.sizes s told) ∙ ap (λ (n : ℕ). with_gate n true (parts s)) page in
      record {
        end = opened gate s;
        told = told_c;
        parts_are = is;
        stands = λ u stands linked.
            let calm = calm_where_linked (parts s) (flip stands.mote.linked ∙ linked) in
            record {
              sound = subst IsSound (flip is) (commit_is_whole (parts s) true stands.sound calm.0 calm.1).sound;
              mote = subst (λ (p : Parts). StandsFor p (commits u)) (flip is) (cut_commit_is_whole (parts s) u true stands.sound stands.mote linked);
            };
      }
