-- Which mote of the machine the parts stand for after each step of the journal, and what boots.
use Rattle.std.specs.Prelude.{◌≡◌, ◌≢◌, ℕ, Bool, true, false, List, [], if◌then◌else◌, Some, None}
use Rattle.component_package.specs.packages.Manifest.{StoredRelease, Stores}
use Rattle.component_package.specs.mote.Sides.{Parts, man, sym, rel, img, go_a, go_b, sel, is_on_b, other_side, is_pending}
use Rattle.component_package.specs.mote.Sound.{IsSound}
use Rattle.component_package.specs.mote.Frames.{Frame}
use Rattle.component_package.specs.mote.Machine.{Mote, Chosen, chosen_of, commits, step}
use Rattle.component_package.specs.mote.Headline.{StandsFor, Chooses}
use Rattle.mote_laws.specs.Steps.{with_gate, with_other_side, other_go, chosen_go}

-- ---- what is chosen

-- Parts choose what their mote boots, and nothing else.
pub record ChoiceIsTheMotes : Type 0 where
  pub chosen : (p : Parts) (s : Mote) → StandsFor p s → Chooses p (chosen_of s)
  pub one : (p : Parts) (c d : Chosen) → Chooses p c → Chooses p d → c ≡ d

-- What a sound mote boots changes where a commit comes to stand, and nowhere else, whatever frame comes.
abbrev pub OnlyCommitsChoose : Type 0
OnlyCommitsChoose = (p : Parts) (s : Mote) (f : Frame) → IsSound p → StandsFor p s → commits s f ≡ false → chosen_of (step s f).mote ≡ chosen_of s

-- ---- steps where no commit stands

-- Gates and pages that the machine doesn't know leave the mote as it is; Img is whether it is linked, Man and the other side what comes in.
pub record RestingStepsStand : Type 0 where
  pub unlinked : (p : Parts) (s : Mote) → StandsFor p s → StandsFor (with_gate img false p) (record s { linked = false })
  pub linked : (p : Parts) (s : Mote) → StandsFor p s → is_pending p ≡ false → StandsFor (with_gate img true p) (record s { linked = true })
  pub relocs : (p : Parts) (s : Mote) (b : Bool) → StandsFor p s → StandsFor (with_gate rel b p) s
  pub symbols : (p : Parts) (s : Mote) (b : Bool) → StandsFor p s → StandsFor (with_gate sym b p) s
  pub dropped : (p : Parts) (s : Mote) → StandsFor p s → StandsFor (with_gate man false p) (record s { incoming = None })
  pub incoming : (p : Parts) (s : Mote) (m : StoredRelease) → StandsFor p s → is_pending p ≡ false → Stores (other_side p) m
      → StandsFor (with_gate man true p) (record s { incoming = Some m })
  pub side : (p : Parts) (s : Mote) (bytes : List ℕ) → StandsFor p s → s.incoming ≡ None → StandsFor (with_other_side bytes p) s
  pub symbol_area : (p : Parts) (s : Mote) (area : List ℕ) → StandsFor p s → StandsFor (record p { symbols = area }) s
  pub reloc_area : (p : Parts) (s : Mote) (area : List ℕ) → StandsFor p s → StandsFor (record p { relocs = area }) s
  pub staged : (p : Parts) (s : Mote) (pages : List (List ℕ)) → StandsFor p s → StandsFor (record p { staged = pages }) s
  pub slot : (p : Parts) (s : Mote) (slots : List (List ℕ)) → StandsFor p s → StandsFor (record p { slots = slots }) (record s { store = slots })

-- ---- a commit

-- COMMIT
abbrev pub commit_frame : Frame
commit_frame = record { kind = 4; payload = [] }

-- Wherever a cut in the program of the other side's Go gate left it, the parts stand for the mote after the commit or for the one before it.
abbrev pub CutCommitIsWhole : Type 0
CutCommitIsWhole = (p : Parts) (s : Mote) (b : Bool) → IsSound p → StandsFor p s → s.linked ≡ true
    → StandsFor (with_gate (other_go p) b p) (if b then (step s commit_frame).mote else s)

-- ---- steps where a commit stands

-- no Go gate
abbrev pub IsOther : ℕ → Type 0
IsOther gate = (gate ≢ go_a) × (gate ≢ go_b)

-- Until the Go gate is closed nothing of them is seen, and then no commit stands and nothing comes in.
pub record StandingStepsStand : Type 0 where
  pub gate : (p : Parts) (s : Mote) (gate : ℕ) (b : Bool) → StandsFor p s → is_pending p ≡ true → IsOther gate → StandsFor (with_gate gate b p) s
  pub prog : (p : Parts) (s : Mote) (pages : List (List ℕ)) → StandsFor p s → StandsFor (record p { prog = pages }) s
  pub finished : (p : Parts) (s : Mote) → IsSound p → StandsFor p s → is_pending p ≡ true → p.gates sel ≡ is_on_b p → p.gates img ≡ false
      → p.gates man ≡ false
      → StandsFor (with_gate (chosen_go p) false p) (record s { standing = false })
