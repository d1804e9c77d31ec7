-- What the body of a POST commands.
use Rattle.std.specs.Prelude.{ℕ, ◌≤◌, List, length, map, Option, Some, option_map}
use Rattle.http_bodies.specs.declared.part.Part.{Part as BodyPart}
use Rattle.http_bodies.specs.Parts.{parts_in}
use Rattle.http_bodies.specs.Acknowledgement.{acknowledgement_in}
use Rattle.http_requests.specs.Questions.{Purpose, for_version, for_release, for_acknowledgement}
use Rattle.release_rows.specs.declared.part.Part.{Part}
use Rattle.release_rows.specs.declared.command.Command.{Command}
use Rattle.release_rows.specs.declared.command.Command.TheVariants.{AddVersion, AddRelease, Acknowledge}

-- a part of a body as one of a command
abbrev pub row_part : BodyPart → Part
row_part p = record { component = p.component; version = p.version }

-- the command of a POST for this with this body; an object is any body
abbrev pub command_in : Purpose → List ℕ → Option Command
command_in (for_version component) body = Some (AddVersion component body)
command_in (for_release mote) body = option_map (λ parts. AddRelease mote (map row_part parts)) (parts_in body)
command_in (for_acknowledgement mote) body = option_map (Acknowledge mote) (acknowledgement_in body)

-- an object has at most 262,144 bytes, and a release 1 to 16 parts
abbrev pub IsBounded : Command → Type 0
IsBounded (AddVersion component object) = length object ≤ 262144
IsBounded (AddRelease mote parts) = (1 ≤ length parts) × (length parts ≤ 16)
IsBounded (Acknowledge mote release) = Unit {0}
