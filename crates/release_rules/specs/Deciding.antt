-- What a release server decides of a command that came under a key.
use Rattle.std.specs.Prelude.{ℕ, ◌≤◌, bytes_eq, List, length, Option, Some, None, if◌then◌else◌}
use Rattle.sha2.specs.Sha256.{sha256}
use Rattle.http_bodies.specs.Replies.{reply_text, version_reply, release_reply, acknowledgement_reply}
use Rattle.release_rows.specs.declared.row.KeyRow.{KeyRow}
use Rattle.release_rows.specs.declared.command.Command.{Command}
use Rattle.release_rows.specs.declared.command.Command.TheVariants.{AddVersion, AddRelease, Acknowledge}
use Rattle.release_rows.specs.declared.change.Effect.{Effect}
use Rattle.release_rows.specs.declared.change.Effect.TheVariants.{Version, Release, Ack}
use Rattle.release_rows.specs.Tables.{Tables, key_row}
use Rattle.release_rows.specs.Change.{IsSound}
use Rattle.release_judging.specs.declared.judged.Judged.{Judged}
use Rattle.release_judging.specs.declared.judged.Judged.TheVariants as judgements
use Rattle.release_judging.specs.Judging.{judged_release, judged_ack}
use Rattle.release_versions.specs.Versions.{judged_version}
use Rattle.release_rules.specs.declared.decision.Decision.{Decision}
use Rattle.release_rules.specs.declared.decision.Decision.TheVariants.{Accepted, Repeated, KeyTaken, NoRow, Refused}

-- what may be decided: an object of at most 262,144 bytes, and a release of 1 to 16 parts
abbrev pub IsAllowed : Command → Type 0
IsAllowed (AddVersion component object) = length object ≤ 262144
IsAllowed (AddRelease mote parts) = (1 ≤ length parts) × (length parts ≤ 16)
IsAllowed (Acknowledge mote release) = Unit {0}

-- what the rules say of a command, its key apart
abbrev pub judged : Tables → Command → Judged
judged t (AddVersion component object) = judged_version t component object
judged t (AddRelease mote parts) = judged_release t mote parts
judged t (Acknowledge mote release) = judged_ack t mote release

-- the body that answers what a command did
abbrev pub body_of : Effect → List ℕ
body_of (Version name component version symbols bytes) = reply_text (version_reply component (length bytes) (sha256 bytes) version)
body_of (Release mote number parts) = reply_text (release_reply mote number)
body_of (Ack mote release) = reply_text (acknowledgement_reply release mote)

-- a new key: what is to be done is accepted, and kept under the key with its body; what is refused keeps no key
abbrev pub settled : List ℕ → List ℕ → Judged → Decision
settled key digest (judgements.Does effect) =
    Accepted (record { effect = effect; key = record { key = key; digest = digest; body = body_of effect } })
settled key digest judgements.NoRow = NoRow
settled key digest (judgements.Refused number values) = Refused number values

-- a key that has a row is answered by it, whatever the rules say now: with its body where the digest is the same, else with its digest
abbrev pub by_key : Option KeyRow → List ℕ → Decision → Decision
by_key None digest new = new
by_key (Some row) digest new = if bytes_eq digest row.digest then Repeated row.body else KeyTaken row.digest

-- what is decided of a command under a key
abbrev pub decided : Tables → (key : List ℕ) → (digest : List ℕ) → Command → Decision
decided t key digest command = by_key (key_row t key) digest (settled key digest (judged t command))

-- what is accepted can be done to every table
abbrev pub IsSafely : Decision → Type 0
IsSafely (Accepted change) = IsSound change.effect
IsSafely (Repeated body) = Unit {0}
IsSafely (KeyTaken digest) = Unit {0}
IsSafely NoRow = Unit {0}
IsSafely (Refused number values) = Unit {0}
