-- Which mote of the machine the parts of layout 2 stand for after each step of the journal, and what boots.
use Rattle.std.specs.Prelude.{◌≡◌, ℕ, Bool, true, false, List, slice_set, if◌then◌else◌, Some, None}
use Rattle.std.specs.List.{AllByRecursion}
use Rattle.component_package.specs.mote.Sides.{man, sym, rel, img, sel}
use Rattle.kept_definitions.specs.Stored.{StoredRelease, Stores}
use Rattle.kept_definitions.specs.Kept.{Chosen}
use Rattle.kept_definitions.specs.Sides.{Parts, is_on_b, other_side, is_pending}
use Rattle.kept_definitions.specs.Sound.{IsSound}
use Rattle.kept_definitions.specs.Machine.{Mote, step}
use Rattle.kept_definitions.specs.Headline.{StandsFor, Chooses}
use Rattle.mote_laws.specs.Stands.{commit_frame, IsOther}
use Rattle.kept_laws.specs.Laws.{KeepsItsRun}
use Rattle.kept_laws.specs.Steps.{with_gate, with_other_side, other_go, chosen_go, HasNoRun}

-- Parts stand for one mote at most, and sound ones for one; they choose what it boots, and nothing else.
pub record PartsStandForOne : Type 0 where
  pub one : (p : Parts) (s t : Mote) → StandsFor p s → StandsFor p t → s ≡ t
  pub some : (p : Parts) → IsSound p → (s : Mote) × StandsFor p s
  pub choice : (p : Parts) (c d : Chosen) → Chooses p c → Chooses p d → c ≡ d

-- ---- steps where no commit stands

-- Gates and pages that the machine doesn't know leave the mote as it is; Img is whether it is linked, Man and the other side what comes in. What boots
-- doesn't depend on inbox and staged pages here, so a piece needs no premise on slots.
pub record RestingStepsStand : Type 0 where
  pub unlinked : (p : Parts) (s : Mote) → StandsFor p s → StandsFor (with_gate img false p) (record s { linked = false })
  pub linked : (p : Parts) (s : Mote) → StandsFor p s → is_pending p ≡ false → StandsFor (with_gate img true p) (record s { linked = true })
  pub relocs : (p : Parts) (s : Mote) (b : Bool) → StandsFor p s → StandsFor (with_gate rel b p) s
  pub symbols : (p : Parts) (s : Mote) (b : Bool) → StandsFor p s → StandsFor (with_gate sym b p) s
  pub dropped : (p : Parts) (s : Mote) → StandsFor p s → StandsFor (with_gate man false p) (record s { incoming = None })
  pub incoming : (p : Parts) (s : Mote) (m : StoredRelease) → StandsFor p s → is_pending p ≡ false → Stores (other_side p) m
      → StandsFor (with_gate man true p) (record s { incoming = Some m })
  pub side : (p : Parts) (s : Mote) (bytes : List ℕ) → StandsFor p s → s.incoming ≡ None → StandsFor (with_other_side bytes p) s
  pub symbol_area : (p : Parts) (s : Mote) (area : List ℕ) → StandsFor p s → StandsFor (record p { symbols = area }) s
  pub reloc_area : (p : Parts) (s : Mote) (area : List ℕ) → StandsFor p s → StandsFor (record p { relocs = area }) s
  pub staged : (p : Parts) (s : Mote) (pages : List (List ℕ)) → StandsFor p s → is_pending p ≡ false → StandsFor (record p { staged = pages }) s
  pub slot : (p : Parts) (s : Mote) (slots : List (List ℕ)) → StandsFor p s → is_pending p ≡ false → StandsFor (record p { inbox = slots }) (record s { inbox = slots })

-- ---- a commit

-- Wherever a cut in the program of the other side's Go gate left it, the parts stand for the mote after the commit or for the one before it.
abbrev pub CutCommitIsWhole : Type 0
CutCommitIsWhole = (p : Parts) (s : Mote) (b : Bool) → IsSound p → StandsFor p s → s.linked ≡ true
    → StandsFor (with_gate (other_go p) b p) (if b then (step s commit_frame).mote else s)

-- ---- steps where a commit stands

-- Until the Go gate is closed nothing of them is seen, and then no commit stands and nothing comes in.
pub record StandingStepsStand : Type 0 where
  pub gate : (p : Parts) (s : Mote) (gate : ℕ) (b : Bool) → StandsFor p s → is_pending p ≡ true → IsOther gate → StandsFor (with_gate gate b p) s
  pub prog : (p : Parts) (s : Mote) (pages : List (List ℕ)) → StandsFor p s → is_pending p ≡ true → StandsFor (record p { prog = pages }) s
  pub table : (p : Parts) (s : Mote) (slot : ℕ) (bytes : List ℕ) → StandsFor p s → is_pending p ≡ true → HasNoRun s.current.release slot
      → StandsFor (record p { tables = slice_set p.tables slot bytes }) s
  pub finished : (p : Parts) (s : Mote) → IsSound p → StandsFor p s → is_pending p ≡ true → p.gates sel ≡ is_on_b p → p.gates img ≡ false
      → p.gates rel ≡ false → p.gates sym ≡ false → p.gates man ≡ false → p.prog ≡ p.staged → AllByRecursion (KeepsItsRun p.tables p.inbox) s.current.release.placed
      → StandsFor (with_gate (chosen_go p) false p) (record s { standing = false })
