-- Statuses and kinds of bodies as numbers and lines.
use Rattle.std.specs.Prelude.{ℕ, List, codes}
use Rattle.http_replies.specs.declared.status.Status.{Status}
use Rattle.http_replies.specs.declared.status.Status.TheVariants.{Success, Created, BadRequest, NotFound, MethodNotAllowed, Conflict, PayloadTooLarge, UnprocessableEntity, ServiceUnavailable, InsufficientStorage}
use Rattle.http_replies.specs.declared.status.MediaType.{MediaType}
use Rattle.http_replies.specs.declared.status.MediaType.TheVariants.{Json, OctetStream}

-- the number of a status
abbrev pub code_of : Status → ℕ
code_of Success = 200
code_of Created = 201
code_of BadRequest = 400
code_of NotFound = 404
code_of MethodNotAllowed = 405
code_of Conflict = 409
code_of PayloadTooLarge = 413
code_of UnprocessableEntity = 422
code_of ServiceUnavailable = 503
code_of InsufficientStorage = 507

-- the first line of a reply: the version, the number and the phrase
abbrev pub status_line_of : Status → List ℕ
status_line_of Success = codes "HTTP/1.1 200 OK\r\n"
status_line_of Created = codes "HTTP/1.1 201 Created\r\n"
status_line_of BadRequest = codes "HTTP/1.1 400 Bad Request\r\n"
status_line_of NotFound = codes "HTTP/1.1 404 Not Found\r\n"
status_line_of MethodNotAllowed = codes "HTTP/1.1 405 Method Not Allowed\r\n"
status_line_of Conflict = codes "HTTP/1.1 409 Conflict\r\n"
status_line_of PayloadTooLarge = codes "HTTP/1.1 413 Payload Too Large\r\n"
status_line_of UnprocessableEntity = codes "HTTP/1.1 422 Unprocessable Entity\r\n"
status_line_of ServiceUnavailable = codes "HTTP/1.1 503 Service Unavailable\r\n"
status_line_of InsufficientStorage = codes "HTTP/1.1 507 Insufficient Storage\r\n"

-- the line that says what the body is
abbrev pub type_line_of : MediaType → List ℕ
type_line_of Json = codes "Content-Type: application/json\r\n"
type_line_of OctetStream = codes "Content-Type: application/octet-stream\r\n"
