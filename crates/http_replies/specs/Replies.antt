-- The bytes of a reply.
use Rattle.std.specs.Prelude.{ℕ, List, ◌++◌, length, codes, decimal}
use Rattle.http_replies.specs.Statuses.{status_line_of, type_line_of}
use Rattle.http_replies.specs.declared.status.Status.{Status}
use Rattle.http_replies.specs.declared.status.MediaType.{MediaType}

-- the lines before a body of so many bytes, and the empty line that ends them
abbrev pub head_bytes : Status → MediaType → ℕ → List ℕ
head_bytes status media count =
    status_line_of status ++ type_line_of media ++ codes "Content-Length: " ++ decimal count ++ codes "\r\nConnection: close\r\n\r\n"

-- a reply: its head and its body
abbrev pub reply_bytes : Status → MediaType → List ℕ → List ℕ
reply_bytes status media body = head_bytes status media (length body) ++ body
