-- What is read of the gates and the sides of a mote.
use Rattle.std.specs.Prelude.{◌≡◌, ◌⊎◌, ◌&&◌, Bool, true, false, if◌then◌else◌, ℕ, List, Option, Some, None, is_some, IfSome, Result, Ok, Err}
use Rattle.std.specs.Option.{option_map}
use Rattle.kept_definitions.specs.Stored.{StoredRelease, Stores}
use Rattle.kept_manifests.specs.Slots.{IsSlotManifest, stored_of}
use Rattle.kept_definitions.specs.Sides.{Parts, is_on_b, chosen_side, is_pending}
use Rattle.component_package.specs.mote.Sides.{fmt, sym, rel, img, go_a, go_b}
use Rattle.kept_definitions.specs.Machine.{Mote}
use Rattle.kept_laws.specs.Standing.{IsNoRelease, IsUnformatted, IsIncoming}
use Rattle.kept_manifests.specs.declared.pages.SlotManifest.{SlotManifest}
use Rattle.kept_journal.specs.declared.standing.Standing.{Standing}
use Rattle.kept_journal.specs.declared.standing.Side.{Side}
use Rattle.kept_journal.specs.declared.standing.Flags.{Flags}
use Rattle.kept_journal.specs.declared.standing.JournalFault.{JournalFault}
use Rattle.kept_journal.specs.declared.standing.JournalFault.TheVariants.{Fault, Unformatted}

-- the release that comes in, with its slots
abbrev pub incoming_of : Standing → Option StoredRelease
incoming_of t = option_map stored_of t.incoming

-- what formatted parts say: the chosen side and its release, whether a commit stands, what comes in, and of that the three gates
pub record IsStanding (p : Parts) (t : Standing) : Type 0 where
  pub formatted : p.gates fmt ≡ true
  pub one_go : p.gates go_a ≡ true → p.gates go_b ≡ false
  pub on_b : t.on_b ≡ is_on_b p
  pub pending : t.pending ≡ is_pending p
  pub current : Stores (chosen_side p) (stored_of t.current)
  pub incoming : IsIncoming p (incoming_of t)
  pub symbols : t.symbols ≡ (is_some t.incoming && p.gates sym)
  pub relocs : t.relocs ≡ (is_some t.incoming && p.gates rel)
  pub image : t.image ≡ (is_some t.incoming && p.gates img)

-- the same as the machine's mote says it
pub record IsOfMote (s : Mote) (t : Standing) : Type 0 where
  pub current : stored_of t.current ≡ s.current.release
  pub incoming : incoming_of t ≡ s.incoming
  pub linked : t.image ≡ s.linked
  pub standing : t.pending ≡ s.standing

-- both are stored manifests
pub record HasManifests (t : Standing) : Type 0 where
  pub current : IsSlotManifest t.current
  pub incoming : IfSome t.incoming IsSlotManifest

-- ---- what is read one after another

-- what the Go gates and Sel say, if one Go gate at most is open
abbrev pub side_by : Bool → Bool → Bool → Option Side
side_by go_a go_b sel =
    if go_a then (if go_b then None else Some (record { on_b = false; pending = true }))
    else if go_b then Some (record { on_b = true; pending = true })
    else Some (record { on_b = sel; pending = false })

-- parts with no side to boot, by their gates; or which side is chosen, and whether a commit stands
abbrev pub SideSays : Option Side → Parts → Type 0
SideSays None p = (p.gates fmt ≡ false) ⊎ ((p.gates go_a ≡ true) × (p.gates go_b ≡ true))
SideSays (Some t) p = (p.gates fmt ≡ true) × (p.gates go_a ≡ true → p.gates go_b ≡ false) × (t.on_b ≡ is_on_b p) × (t.pending ≡ is_pending p)

abbrev pub side_bytes : Bool → Parts → List ℕ
side_bytes on_b p = if on_b then p.side_b else p.side_a

-- the side stores that release, or none
abbrev pub StoresRelease : List ℕ → Option SlotManifest → Type 0
StoresRelease side None = IsNoRelease side
StoresRelease side (Some m) = Stores side (stored_of m)

-- the three gates, where something comes in
abbrev pub FlagsSay : Bool → Flags → Parts → Type 0
FlagsSay comes f p = (f.symbols ≡ (comes && p.gates sym)) × (f.relocs ≡ (comes && p.gates rel)) × (f.image ≡ (comes && p.gates img))

-- ---- answers

-- the answer for these parts, where no call of the board failed
abbrev pub AnswersFor : Result Standing JournalFault → Parts → Type 0
AnswersFor (Ok t) p = IsStanding p t
AnswersFor (Err Fault) p = Unit {0}
AnswersFor (Err Unformatted) p = IsUnformatted p

-- a call of the board failed
abbrev pub is_fault : Result Standing JournalFault → Bool
is_fault (Ok t) = false
is_fault (Err Fault) = true
is_fault (Err Unformatted) = false
