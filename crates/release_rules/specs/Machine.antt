-- The release machine: what it answers to a question over tables, and the tables afterwards.
use Rattle.std.specs.Prelude.{◌≡◌, ℕ, ℤ, ◌+◌, List, [], map, Option, Some, None}
use Rattle.http_bodies.specs.Replies.{reply_text, key_taken_reply, refusal_reply}
use Rattle.http_replies.specs.declared.status.Status.{Status}
use Rattle.http_replies.specs.declared.status.Status.TheVariants.{Success, Created, NotFound, Conflict, UnprocessableEntity}
use Rattle.component_package.specs.packages.Component.{Component}
use Rattle.component_package.specs.packages.Reading.{component_of}
use Rattle.component_package.specs.link.Link.{Cause, link_cause, IsImage}
use Rattle.release_rows.specs.declared.command.Command.{Command}
use Rattle.release_rows.specs.Tables.{Tables}
use Rattle.release_rows.specs.Change.{changed}
use Rattle.release_judging.specs.Faults.{number_of_cause, cause_values}
use Rattle.release_judging.specs.Images.{packages_of_release}
use Rattle.release_updates.specs.Updates.{update_bytes}
use Rattle.release_rules.specs.declared.decision.Decision.{Decision}
use Rattle.release_rules.specs.declared.decision.Decision.TheVariants.{Accepted, Repeated, KeyTaken, NoRow, Refused}
use Rattle.release_rules.specs.Deciding.{decided}
use Rattle.release_rules.specs.Motes.{mote_text}

-- what a release server is asked: to do a command under a key whose digest is this, what a mote has, the update of a mote from the release
-- that it has, or the image of a mote's release
pub data Asked : Type 0 where
  Posts : (key digest : List ℕ) → Command → Asked
  AsksMote : (mote : List ℕ) → Asked
  AsksUpdate : (mote : List ℕ) (have : ℕ) → Asked
  AsksImage : (mote : List ℕ) (number : ℕ) → Asked

-- a status, a body, and the tables afterwards
pub record Answer : Type 0 where
  pub status : Status
  pub body : List ℕ
  pub tables : Tables

-- ---- refusals

-- the text of a refusal
abbrev pub refusal_text : ℕ → List ℤ → List ℕ
refusal_text number values = reply_text (refusal_reply number values)

-- what was asked for isn't there
abbrev pub missing : Tables → Answer
missing t = record { status = NotFound; body = refusal_text 2 []; tables = t }

-- a rule refuses it
abbrev pub refused : ℕ → List ℤ → Tables → Answer
refused number values t = record { status = UnprocessableEntity; body = refusal_text number values; tables = t }

-- ---- answers

-- the answer that a decision gives; only what is accepted changes the tables
abbrev pub answered : Decision → Tables → Answer
answered (Accepted change) t = record { status = Created; body = change.key.body; tables = changed t change }
answered (Repeated body) t = record { status = Created; body = body; tables = t }
answered (KeyTaken digest) t = record { status = Conflict; body = reply_text (key_taken_reply digest); tables = t }
answered NoRow t = missing t
answered (Refused number values) t = refused number values t

-- a text or bytes that were asked for, where they are there
abbrev pub found : Option (List ℕ) → Tables → Answer
found None t = missing t
found (Some body) t = record { status = Success; body = body; tables = t }

-- the image of packages, or why they have none
abbrev pub IsImageOf : Option Cause → List Component → Tables → Answer → Type 0
IsImageOf (Some cause) set t a = a ≡ refused (300 + number_of_cause cause) (cause_values cause) t
IsImageOf None set t a = (image : List ℕ) × IsImage set image × (a ≡ record { status = Success; body = image; tables = t })

-- the same of a release's packages, where they are there
abbrev pub IsReleaseImage : Option (List (List ℕ)) → Tables → Answer → Type 0
IsReleaseImage None t a = a ≡ missing t
IsReleaseImage (Some packages) t a = IsImageOf (link_cause (map component_of packages)) (map component_of packages) t a

-- The answers: what is decided of a command, what a mote has, its update, and the image of its release.
abbrev pub IsAnswer : Tables → Asked → Answer → Type 0
IsAnswer t (Posts key digest command) a = a ≡ answered (decided t key digest command) t
IsAnswer t (AsksMote mote) a = a ≡ found (mote_text t mote) t
IsAnswer t (AsksUpdate mote have) a = a ≡ found (update_bytes t mote have) t
IsAnswer t (AsksImage mote number) a = IsReleaseImage (packages_of_release t mote number) t a
