-- What the steps of the journal do: to the parts of a told state, to the mote that it stands for, and what a cut may leave of them.
use Rattle.std.specs.Prelude.{◌≡◌, ◌⊎◌, ◌&&◌, ◌||◌, not, nat_le, nat_lt, ℕ, ◌+◌, Bool, true, false, if◌then◌else◌, List, Some, None}
use Rattle.std.specs.List.{AllByRecursion}
use Rattle.flash_pages.specs.State.{State, Place, Prog, Ext, OnlyPages}
use Rattle.flash_pages.specs.Board.{View}
use Rattle.flash_pages.specs.Moments.{LeavesOnly}
use Rattle.kept_definitions.specs.Stored.{StoredRelease, Stores}
use Rattle.kept_definitions.specs.Sides.{Parts, parts_of, is_on_b, chosen_side}
use Rattle.component_package.specs.mote.Sides.{man, sym, rel, img, sel}
use Rattle.kept_definitions.specs.Sound.{IsSound, IsMerged, IsListed, IsStaged}
use Rattle.kept_definitions.specs.Machine.{Mote, step}
use Rattle.kept_definitions.specs.Headline.{StandsFor}
use Rattle.kept_laws.specs.Laws.{KeepsItsRun}
use Rattle.kept_laws.specs.Steps.{with_gate, with_other_side, chosen_go, Keeps}
use Rattle.mote_laws.specs.Stands.{commit_frame}
use Rattle.kept_laws.specs.Invariant.{ComesNext}
use Rattle.kept_journal.specs.declared.gates.Stage.{Stage}
use Rattle.kept_journal.specs.declared.gates.Stage.TheVariants.{Symbols, Relocs, Image}

-- the parts of a state
abbrev pub parts : State → Parts
parts s = parts_of s.prog s.ext

-- the state is sound, and stands for this mote
pub record Stands (s : State) (t : Mote) : Type 0 where
  pub sound : IsSound (parts s)
  pub mote : StandsFor (parts s) t

-- ---- what a cut may leave

-- What a step may leave of s that may change only these pages: nothing was sent and all other pages are as they were. Where s is sound, and stands for a
-- mote that the step is meant for, x is sound and chooses the release and the set that s chooses.
pub record Step (meant : Mote → Type 0) (may : Place → Bool) (s x : State) : Type 0 where
  pub pages : OnlyPages may s x
  pub prog : ((page : ℕ) → may (Prog page) ≡ false) → x.prog ≡ s.prog
  pub keeps : (t : Mote) → Stands s t → meant t → Keeps (parts s) (parts x)

-- What a commit may leave of s: as a step, but that x stands for the mote as it was, or for the one behind the commit.
pub record CommitStep (may : Place → Bool) (s x : State) : Type 0 where
  pub pages : OnlyPages may s x
  pub prog : x.prog ≡ s.prog
  pub sound : (t : Mote) → Stands s t → t.linked ≡ true → IsSound (parts x)
  pub mote : (t : Mote) → Stands s t → t.linked ≡ true → StandsFor (parts x) t ⊎ StandsFor (parts x) (step t commit_frame).mote

-- no page was programmed but these
abbrev pub WearsOnly : (Place → Bool) → View → View → Type 0
WearsOnly may old new = (place : Place) → may place ≡ false → new.programs place ≡ old.programs place

-- A call that took such a step from s: so does each state that a cut may have left since old; there were at most so many programs, and of these pages alone.
pub record Takes (P : State → Type 0) (may : Place → Bool) (most : ℕ) (old new : View) : Type 0 where
  pub leaves : LeavesOnly P most old new
  pub wears : WearsOnly may old new

-- ---- what a step that was done leaves

-- The parts are these. Where s is sound, and stands for a mote that the step is meant for, the state now is sound and stands for the mote behind the step.
pub record Becomes (q : Parts) (meant : Mote → Type 0) (after : Mote → Mote) (s : State) (v : View) : Type 0 where
  pub end : State
  pub told : v.state ≡ Some end
  pub parts_are : parts end ≡ q
  pub stands : (t : Mote) → Stands s t → meant t → Stands end (after t)

-- ---- which motes the steps are meant for, and what becomes of them

-- any mote
abbrev pub any_mote : Mote → Type 0
any_mote t = Unit {0}

-- a mote with no commit that stands
abbrev pub Rests : Mote → Type 0
Rests t = t.standing ≡ false

-- a mote with a commit that stands
abbrev pub Pends : Mote → Type 0
Pends t = t.standing ≡ true

-- a mote with a linked release
abbrev pub IsLinked : Mote → Type 0
IsLinked t = t.linked ≡ true

-- a mote with no commit that stands, over whose current release this is a later one, with the slots that it gets
abbrev pub CanTake : StoredRelease → Mote → Type 0
CanTake m t = Rests t × ComesNext t.current.release (Some m)

abbrev pub stays : Mote → Mote
stays t = t

abbrev pub unlinks : Mote → Mote
unlinks t = record t { linked = false }

abbrev pub abandons : Mote → Mote
abandons t = record t { incoming = None; linked = false }

abbrev pub takes_in : StoredRelease → Mote → Mote
takes_in m t = record t { incoming = Some m; linked = false }

abbrev pub boots : Mote → Mote
boots t = record t { standing = false }

abbrev pub marks : Stage → Mote → Mote
marks Symbols t = t
marks Relocs t = t
marks Image t = record t { linked = true }

abbrev pub commits : Mote → Mote
commits t = (step t commit_frame).mote

-- ---- parts after a step

abbrev pub unlinked : Parts → Parts
unlinked p = with_gate sym false (with_gate rel false (with_gate img false p))

abbrev pub abandoned : Parts → Parts
abandoned p = with_gate man false (unlinked p)

-- with these bytes on this side
abbrev pub with_side : Bool → List ℕ → Parts → Parts
with_side on_b bytes p = record p { side_a = if on_b then p.side_a else bytes; side_b = if on_b then bytes else p.side_b }

-- with these bytes on the other side as what comes in
abbrev pub taken_in : List ℕ → Parts → Parts
taken_in bytes p = with_gate man true (with_other_side bytes (abandoned p))

-- Sel stands at the chosen side, nothing comes in, and the chosen side's Go gate is closed
abbrev pub finished : Parts → Parts
finished p = with_gate (chosen_go p) false (abandoned (with_gate sel (is_on_b p) p))

-- a mote with no commit that stands and nothing that comes in, whose other side this is
abbrev pub CanWrite : Bool → Parts → Mote → Type 0
CanWrite on_b p t = Rests t × (p.gates man ≡ false) × (on_b ≡ not (is_on_b p))

-- program flash is the staged image, and the run of each fresh entry of the chosen release is in its table slot
pub record IsCopied (p : Parts) : Type 0 where
  pub prog : p.prog ≡ p.staged
  pub runs : (m : StoredRelease) → Stores (chosen_side p) m → AllByRecursion (KeepsItsRun p.tables p.inbox) m.placed

-- ---- stages

-- the page of the stage's gate
abbrev pub stage_gate : Stage → ℕ
stage_gate Symbols = sym
stage_gate Relocs = rel
stage_gate Image = img

-- what the stage's gate vouches for
abbrev pub Vouches : Stage → Parts → Type 0
Vouches Symbols p = IsMerged p
Vouches Relocs p = IsListed p
Vouches Image p = IsStaged p

-- ---- pages that a step may change

-- this page alone
abbrev pub one_page : ℕ → Place → Bool
one_page page (Prog p) = false
one_page page (Ext p) = nat_le page p && nat_le p page

-- the five pages of a side
abbrev pub side_pages : Bool → Place → Bool
side_pages on_b (Prog page) = false
side_pages on_b (Ext page) = let first = if on_b then 13 else 8 in nat_le first page && nat_lt page (first + 5)

-- the gates from Man to Img, and the five pages of the side that isn't chosen
abbrev pub manifest_pages : Parts → Place → Bool
manifest_pages p (Prog page) = false
manifest_pages p (Ext page) = (nat_le 1 page && nat_le page 4) || side_pages (not (is_on_b p)) (Ext page)
