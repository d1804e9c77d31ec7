-- How steps follow on each other.
use Rattle.std.proofs.Common.{◌≡◌, ◌≢◌, inl, inr, ℕ, ◌+◌, ◌≤◌, Bool, true, false, Some, refl, sym as flip, ap, ◌∙◌, subst, arith}
use Rattle.std.proofs.lemmas.Bool.{false≢true}
use Rattle.flash_pages.specs.State.{State, Place, Prog, Ext, MayHold}
use Rattle.flash_pages.specs.Board.{View, Reads, Programs}
use Rattle.flash_pages.proofs.Pages.{only_starts, only_programs, only_only}
use Rattle.flash_pages.proofs.Runs.{starts, follows, weaker, at_end, reads, programs}
use Rattle.external_flash.specs.declared.Gate.{Gate}
use Rattle.external_flash.specs.Gates.{gate_page, gate_place}
use Rattle.kept_definitions.specs.Sides.{Parts}
use Rattle.kept_definitions.specs.Sound.{IsSound}
use Rattle.kept_definitions.specs.Machine.{Mote}
use Rattle.kept_definitions.specs.Headline.{StandsFor}
use Rattle.kept_laws.specs.Steps.{with_gate, Keeps}
use Rattle.kept_journal.specs.Steps.{parts, Stands, Step, Takes, Becomes}
use Rattle.kept_journal.proofs.Bridge.{gate_step}

-- sound parts keep themselves
pub keeps_same : (p : Parts) → IsSound p → Keeps p p
keeps_same p sound = record { sound = sound; chosen = λ c chooses. chooses }

pub keeps_keeps : (p q r : Parts) → Keeps p q → Keeps q r → Keeps p r
keeps_keeps p q r first second = record { sound = second.sound; chosen = λ c chooses. second.chosen c (first.chosen c chooses) }

-- no step yet
pub step_same : (meant : Mote → Type 0) (may : Place → Bool) (s : State) → Step meant may s s
step_same meant may s = record { pages = only_starts may s; prog = λ none. refl; keeps = λ t stands is. keeps_same (parts s) stands.sound }

-- before the first call
pub takes_none : (meant : Mote → Type 0) (may : Place → Bool) (old : View) (s : State) → old.state ≡ Some s → Takes (Step meant may s) may 0 old old
takes_none meant may old s told = record { leaves = starts (Step meant may s) old s told (step_same meant may s); wears = λ place barred. refl }

-- a run, and then a read
pub takes_read : (P : State → Type 0) (may : Place → Bool) (n : ℕ) (old mid new : View) → Takes P may n old mid → Reads mid new → Takes P may n old new
takes_read P may n old mid new run read = record { leaves = reads P n old mid new run.leaves read; wears = λ place barred. read.programs place ∙ run.wears place barred }

-- the state at the end of a run
pub takes_end : (P : State → Type 0) (may : Place → Bool) (n : ℕ) (old new : View) (x : State) → Takes P may n old new → new.state ≡ Some x → P x
takes_end P may n old new x run told = at_end P n old new x run.leaves told

-- a greater bound, more pages, and a weaker fact
pub takes_weaker : (P Q : State → Type 0) (may more : Place → Bool) (m n : ℕ) (old new : View) → m ≤ n → ((x : State) → P x → Q x) → ((place : Place) → more place ≡ false → may place ≡ false) → Takes P may m old new → Takes Q more n old new
takes_weaker P Q may more m n old new le implies less run = record { leaves = weaker P Q m n old new le implies run.leaves; wears = λ place barred. run.wears place (less place barred) }

-- the same bound on more programs
pub takes_more : (P : State → Type 0) (may : Place → Bool) (m n : ℕ) (old new : View) → m ≤ n → Takes P may m old new → Takes P may n old new
takes_more P may m n old new le run = takes_weaker P P may may m n old new le (λ x p. p) (λ place barred. barred) run

-- a step that may change fewer pages, and is meant for more motes
pub step_wider : (meant less : Mote → Type 0) (may more : Place → Bool) (s x : State) → ((place : Place) → more place ≡ false → may place ≡ false) → ((t : Mote) → Stands s t → less t → meant t)
    → Step meant may s x → Step less more s x
step_wider meant less may more s x fewer is step = record {
  pages = record { sent = step.pages.sent; page = λ place barred. step.pages.page place (fewer place barred) };
  prog = λ none. step.prog (λ page. fewer (Prog page) (none page));
  keeps = λ t stands l. step.keeps t stands (is t stands l);
}

-- a page that may change isn't one that may not
apart_from : (may : Place → Bool) (place other : Place) → may place ≡ true → may other ≡ false → other ≢ place
apart_from may place other allowed barred same = false≢true (flip barred ∙ ap may same ∙ allowed)

-- program flash after a program of a page
prog_after : (may : Place → Bool) (needed : State → Type 0) (place : Place) (t y : State) → may place ≡ true → ((page : ℕ) → may (Prog page) ≡ false) → MayHold needed place t y → y.prog ≡ t.prog
prog_after may needed place t y allowed none (inl same) = ap (λ (x : State). x.prog) same
prog_after may needed (Prog page) t y allowed none (inr spoilt) = absurd (false≢true (flip (none page) ∙ allowed))
prog_after may needed (Ext page) t y allowed none (inr spoilt) = ap (λ (x : State). x.prog) spoilt.1.is

-- a run, and then a program of a page from a state that is known
pub takes_program : (meant : Mote → Type 0) (may : Place → Bool) (n : ℕ) (needed : State → Type 0) (place : Place) (old mid new : View) (s t : State) → Takes (Step meant may s) may n old mid → mid.state ≡ Some t
    → may place ≡ true → Programs needed place mid new
    → ((y : State) → MayHold needed place t y → (u : Mote) → Stands s u → meant u → IsSound (parts t) → Keeps (parts t) (parts y))
    → Takes (Step meant may s) may (n + 1) old new
takes_program meant may n needed place old mid new s t run told allowed program step =
    let here = takes_end (Step meant may s) may n old mid t run told in
    record {
      leaves = programs (Step meant may s) n needed place old mid new t run.leaves told program (λ y holds. record {
        pages = only_programs may needed place s t y here.pages allowed holds;
        prog = λ none. prog_after may needed place t y allowed none holds ∙ here.prog none;
        keeps = λ u stands is. let first = here.keeps u stands is in keeps_keeps (parts s) (parts t) (parts y) first (step y holds u stands is first.sound);
      });
      wears = λ other barred. program.others t other told (apart_from may place other allowed barred) ∙ run.wears other barred;
    }

-- a run, and then a program of a gate
pub takes_gate : (meant : Mote → Type 0) (may : Place → Bool) (n : ℕ) (needed : State → Type 0) (gate : Gate) (old mid new : View) (s t : State) → Takes (Step meant may s) may n old mid → mid.state ≡ Some t
    → may (gate_place gate) ≡ true → Programs needed (gate_place gate) mid new
    → ((b : Bool) → needed t → (u : Mote) → Stands s u → meant u → IsSound (parts t) → Keeps (parts t) (with_gate (gate_page gate) b (parts t)))
    → Takes (Step meant may s) may (n + 1) old new
takes_gate meant may n needed gate old mid new s t run told allowed program step =
    takes_program meant may n needed (gate_place gate) old mid new s t run told allowed program (λ y holds u stands is sound.
    gate_step (Keeps (parts t)) needed gate t y (mid.sizes t told) (keeps_same (parts t) sound) (λ b need. step b need u stands is sound) holds)

-- a run, and then a run from the state between them
pub takes_takes : (meant then_meant : Mote → Type 0) (may then_may : Place → Bool) (m n : ℕ) (old mid new : View) (s t : State) → Takes (Step meant may s) may m old mid → mid.state ≡ Some t
    → Takes (Step then_meant then_may t) then_may n mid new → ((place : Place) → may place ≡ false → then_may place ≡ false)
    → ((u : Mote) → Stands s u → meant u → (v : Mote) × Stands t v × then_meant v)
    → Takes (Step meant may s) may (m + n) old new
takes_takes meant then_meant may then_may m n old mid new s t run told next fewer mote =
    let here = takes_end (Step meant may s) may m old mid t run told in
    record {
      leaves = follows (Step meant may s) m n old mid new run.leaves (weaker (Step then_meant then_may t) (Step meant may s) n n mid new (omega arith) (λ x step. record {
        pages = only_only may may s t x (λ place barred. barred) here.pages (record { sent = step.pages.sent; page = λ place barred. step.pages.page place (fewer place barred) });
        prog = λ none. step.prog (λ page. fewer (Prog page) (none page)) ∙ here.prog none;
        keeps = λ u stands is. let (v, behind, v_is) = mote u stands is in keeps_keeps (parts s) (parts t) (parts x) (here.keeps u stands is) (step.keeps v behind v_is);
      }) next.leaves);
      wears = λ place barred. next.wears place (fewer place barred) ∙ run.wears place barred;
    }

-- what a run that was done leaves
pub becomes : (meant : Mote → Type 0) (may : Place → Bool) (n : ℕ) (after : Mote → Mote) (q : Parts) (s x : State) (old new : View) → Takes (Step meant may s) may n old new → new.state ≡ Some x → parts x ≡ q
    → ((u : Mote) → Stands s u → meant u → IsSound q → StandsFor q (after u)) → Becomes q meant after s new
becomes meant may n after q s x old new run told is mote = record {
  end = x;
  told = told;
  parts_are = is;
  stands = λ u stands m.
      let sound = ((takes_end (Step meant may s) may n old new x run told).keeps u stands m).sound in
      record { sound = sound; mote = subst (λ (p : Parts). StandsFor p (after u)) (flip is) (mote u stands m (subst IsSound is sound)) };
}
