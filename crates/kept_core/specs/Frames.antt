-- Frames that are served with what the gates and the sides said before.
use Rattle.std.specs.Prelude.{◌≡◌, ℕ, if◌then◌else◌, [], Option, Some, None, is_some}
use Rattle.flash_pages.specs.State.{State}
use Rattle.flash_pages.specs.Board.{View}
use Rattle.flash_pages.specs.Moments.{LeavesOnly}
use Rattle.component_package.specs.declared.answer.Answer.{Answer}
use Rattle.kept_manifests.specs.declared.pages.SlotManifest.{SlotManifest}
use Rattle.component_package.specs.mote.Frames.{Frame}
use Rattle.kept_definitions.specs.Machine.{Mote}
use Rattle.kept_sessions.specs.Turns.{programs_of}
use Rattle.kept_definitions.specs.Stored.{Placed}
use Rattle.kept_core.specs.declared.frames.piece.StoredEntry.{StoredEntry}
use Rattle.kept_journal.specs.declared.standing.Standing.{Standing}
use Rattle.kept_journal.specs.Steps.{parts, Stands}
use Rattle.kept_journal.specs.Standing.{IsOfMote, IsStanding}
use Rattle.kept_core.specs.Serving.{Serves, IsServed}

-- frames with nothing in them
abbrev pub link_frame : Frame
link_frame = record { kind = 3; payload = [] }

abbrev pub status_frame : Frame
status_frame = record { kind = 6; payload = [] }

abbrev pub abort_frame : Frame
abort_frame = record { kind = 7; payload = [] }

-- the work of a frame, where this is what the gates and the sides say of the mote
abbrev pub LeavesKnown : Standing → Frame → View → View → Type 0
LeavesKnown a f old new = (z : State) (t : Mote) → old.state ≡ Some z → Stands z t → IsOfMote t a → LeavesOnly (Serves t f z) (programs_of f) old new

abbrev pub DoesKnown : Standing → Frame → View → View → Answer → Type 0
DoesKnown a f old new answer = (z : State) (t : Mote) → old.state ≡ Some z → Stands z t → IsOfMote t a → IsServed t f answer z new

-- the same for a frame that goes by the gates of what comes in
abbrev pub LeavesRead : Standing → Frame → View → View → Type 0
LeavesRead a f old new = (z : State) (t : Mote) → old.state ≡ Some z → Stands z t → IsOfMote t a → IsStanding (parts z) a → LeavesOnly (Serves t f z) (programs_of f) old new

abbrev pub DoesRead : Standing → Frame → View → View → Answer → Type 0
DoesRead a f old new answer = (z : State) (t : Mote) → old.state ≡ Some z → Stands z t → IsOfMote t a → IsStanding (parts z) a → IsServed t f answer z new

-- the number of what comes in, or 0
abbrev pub number_of_incoming : Option SlotManifest → ℕ
number_of_incoming None = 0
number_of_incoming (Some m) = m.manifest.release

abbrev pub number_of : Standing → ℕ
number_of a = number_of_incoming a.incoming

-- 3 where a commit stands, else 2 where something is linked, 1 where something comes in, else 0
abbrev pub stage_of : Standing → ℕ
stage_of a = if a.pending then 3 else if a.image then 2 else if is_some a.incoming then 1 else 0

-- an entry with its slot and its mark, as the definitions have it
abbrev pub placed_of : StoredEntry → Placed
placed_of e = record { entry = e.entry; slot = e.slot; fresh = e.fresh }
