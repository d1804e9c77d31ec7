-- What the release machine answers to a question, as a reply of HTTP.
use Rattle.std.specs.Prelude.{◌≡◌, ℕ, List, codes, Option, Some, None, ⊤}
use Rattle.http_replies.specs.declared.status.Status.{Status}
use Rattle.http_replies.specs.declared.status.Status.TheVariants.{Success, Created, BadRequest, NotFound, MethodNotAllowed, Conflict, PayloadTooLarge, UnprocessableEntity, ServiceUnavailable, InsufficientStorage}
use Rattle.http_replies.specs.declared.status.MediaType.{MediaType}
use Rattle.http_replies.specs.declared.status.MediaType.TheVariants.{Json, OctetStream}
use Rattle.http_replies.specs.Replies.{reply_bytes}
use Rattle.http_requests.specs.Questions.{Question, not_found, wrong_method, malformed, posts, gets_update, gets_mote, gets_image}
use Rattle.http_commands.specs.Commands.{command_in}
use Rattle.release_rows.specs.declared.row.KeyRow.{KeyRow}
use Rattle.release_rows.specs.declared.command.Command.{Command}
use Rattle.release_rows.specs.Tables.{Tables, key_row}
use Rattle.release_judging.specs.Images.{packages_of_release}
use Rattle.release_updates.specs.Updates.{update_bytes}
use Rattle.release_rules.specs.declared.decision.Decision.TheVariants.{NoRow}
use Rattle.release_rules.specs.Deciding.{by_key, decided}
use Rattle.release_rules.specs.Motes.{mote_text}
use Rattle.release_rules.specs.Machine.{Answer, answered, found, IsReleaseImage}

-- a reply, and the tables afterwards
pub record Response : Type 0 where
  pub status : Status
  pub media : MediaType
  pub body : List ℕ
  pub tables : Tables

-- a reply in JSON
abbrev pub json : Status → List ℕ → Tables → Response
json status body t = record { status = status; media = Json; body = body; tables = t }

-- the bytes of a reply
abbrev pub bytes_of : Response → List ℕ
bytes_of r = reply_bytes r.status r.media r.body

-- ---- refusals that need no rule, each with its number

-- the request is none that the server takes
abbrev pub bad_request : Tables → Response
bad_request t = json BadRequest (codes "{\"refusal\":1,\"values\":[]}") t

-- there is nothing at its path
abbrev pub no_route : Tables → Response
no_route t = json NotFound (codes "{\"refusal\":2,\"values\":[]}") t

-- there is, but by another method
abbrev pub other_method : Tables → Response
other_method t = json MethodNotAllowed (codes "{\"refusal\":3,\"values\":[]}") t

-- its body is too large
abbrev pub large_body : Tables → Response
large_body t = json PayloadTooLarge (codes "{\"refusal\":5,\"values\":[]}") t

-- a call on the keeper failed
abbrev pub unavailable : Tables → Response
unavailable t = json ServiceUnavailable (codes "{\"refusal\":6,\"values\":[]}") t

-- there is no memory
abbrev pub no_memory : Tables → Response
no_memory t = json InsufficientStorage (codes "{\"refusal\":7,\"values\":[]}") t

-- ---- answers of the release machine

-- an answer in JSON
abbrev pub in_json : Answer → Response
in_json a = json a.status a.body a.tables

-- an answer whose body is bytes, where it was found; a refusal is in JSON
abbrev pub media_of : Status → MediaType
media_of Success = OctetStream
media_of Created = Json
media_of BadRequest = Json
media_of NotFound = Json
media_of MethodNotAllowed = Json
media_of Conflict = Json
media_of PayloadTooLarge = Json
media_of UnprocessableEntity = Json
media_of ServiceUnavailable = Json
media_of InsufficientStorage = Json

abbrev pub in_bytes : Answer → Response
in_bytes a = record { status = a.status; media = media_of a.status; body = a.body; tables = a.tables }

-- a body that is no command: a key that has a row is answered by it, and else the request is refused
abbrev pub unread : Option KeyRow → List ℕ → Tables → Response
unread None digest t = bad_request t
unread (Some row) digest t = in_json (answered (by_key (Some row) digest NoRow) t)

-- a POST with this key and this digest, whose body is this command or none
abbrev pub posted : List ℕ → List ℕ → Option Command → Tables → Response
posted key digest None t = unread (key_row t key) digest t
posted key digest (Some command) t = in_json (answered (decided t key digest command) t)

-- what answers a question with this body over these tables
abbrev pub Answers : Question → List ℕ → Tables → Response → Type 0
Answers not_found body t r = r ≡ no_route t
Answers wrong_method body t r = r ≡ other_method t
Answers malformed body t r = r ≡ bad_request t
Answers (posts purpose key digest) body t r = r ≡ posted key digest (command_in purpose body) t
Answers (gets_update mote have) body t r = r ≡ in_bytes (found (update_bytes t mote have) t)
Answers (gets_mote mote) body t r = r ≡ in_json (found (mote_text t mote) t)
Answers (gets_image mote number) body t r = (a : Answer) × IsReleaseImage (packages_of_release t mote number) t a × (r ≡ in_bytes a)

-- a question that the keeper is asked
abbrev pub AsksKeeper : Question → Type 0
AsksKeeper not_found = ⊥
AsksKeeper wrong_method = ⊥
AsksKeeper malformed = ⊥
AsksKeeper (posts purpose key digest) = ⊤
AsksKeeper (gets_update mote have) = ⊤
AsksKeeper (gets_mote mote) = ⊤
AsksKeeper (gets_image mote number) = ⊤
