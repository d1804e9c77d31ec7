-- Replies as the code has them.
use Rattle.std.specs.Prelude.{◌≡◌, ◌≤◌, ℕ, List, Some, Result, OnErr}
use Rattle.http_edges.specs.Edge.{SinkView, Appends, AppendsPart}
use Rattle.http_replies.specs.Statuses.{code_of}
use Rattle.http_replies.specs.Replies.{reply_bytes}
use Rattle.http_requests.specs.Requests.{IsCut}
use Rattle.http_requests.specs.Questions.{Question}
use Rattle.release_rows.specs.declared.rows.RowsFault.{RowsFault}
use Rattle.release_rows.specs.Tables.{Tables}
use Rattle.release_rows.specs.View.{View, Rose, CountsFaults}
use Rattle.http_releases.specs.declared.reply.Content.{Content}
use Rattle.http_releases.specs.declared.reply.Content.TheVariants.{Fixed, OfText, OfBytes}
use Rattle.http_releases.specs.declared.reply.Reply.{Reply}
use Rattle.http_releases.specs.declared.serve.Served.{Served}
use Rattle.http_releases.specs.declared.serve.Served.TheVariants.{Done, ReadFault, WriteFault, Truncated}
use Rattle.http_releases.specs.Responses.{Response, Answers, AsksKeeper, unavailable, no_memory}
use Rattle.http_releases.specs.Outcomes.{IsReply}
use Rattle.std.specs.Prelude.{Option, None}

-- the bytes of a body
abbrev pub content_bytes : Content → List ℕ
content_bytes (Fixed bytes) = bytes.now
content_bytes (OfText text) = text
content_bytes (OfBytes bytes) = bytes

-- a reply with the tables that go with it
abbrev pub with_tables : Reply → Tables → Response
with_tables reply t = record { status = reply.status; media = reply.media; body = content_bytes reply.content; tables = t }

-- a call on the keeper that may change its tables: after an error they are as before
pub record Acts {A : Type 0} (result : Result A RowsFault) (old new : View) : Type 0 where
  pub kept : OnErr result (new.tables ≡ old.tables)
  pub later : old.faults ≤ new.faults
  pub count : CountsFaults result old.faults new.faults

-- where tables are told, the reply is this response to them, and the tables that go with it are there
abbrev pub Responds : View → View → Reply → (Tables → Response) → Type 0
Responds old new reply response =
    (t : Tables) → old.tables ≡ Some t → (new.tables ≡ Some (response t).tables) × (with_tables reply (response t).tables ≡ response t)

-- where tables are told, the reply answers the question over them, and the tables that go with it are there
abbrev pub AnswersOver : Question → List ℕ → View → View → Reply → Type 0
AnswersOver question body old new reply =
    (t : Tables) → old.tables ≡ Some t → (next : Tables) × (new.tables ≡ Some next) × Answers question body t (with_tables reply next)

-- an answer, or in place of it that the keeper failed or that there was no memory
pub data IsAnswered (question : Question) (body : List ℕ) (t : Tables) (failed : Type 0) (r : Response) : Type 0 where
  answers : Answers question body t r → IsAnswered question body t failed r
  fails : AsksKeeper question → failed → r ≡ unavailable t → IsAnswered question body t failed r
  wants : r ≡ no_memory t → IsAnswered question body t failed r

-- the same where tables are told
abbrev pub RepliesOver : Question → List ℕ → View → View → Reply → Type 0
RepliesOver question body old new reply =
    (t : Tables) → old.tables ≡ Some t
    → (next : Tables) × (new.tables ≡ Some next) × IsAnswered question body t (Rose old.faults new.faults) (with_tables reply next)

-- a reply that is due to an input over tables, or that it is cut
abbrev pub IsPrepared : Option Reply → List ℕ → Tables → View → View → Type 0
IsPrepared None input t old new = IsCut input
IsPrepared (Some reply) input t old new = (next : Tables) × IsReply input t old new (with_tables reply next)

-- a reply was written, or a first part of it
abbrev pub Writes : Served → Reply → SinkView → SinkView → Type 0
Writes (Done status) reply old new = (status ≡ code_of reply.status) × Appends (reply_bytes reply.status reply.media (content_bytes reply.content)) old new
Writes WriteFault reply old new = AppendsPart (reply_bytes reply.status reply.media (content_bytes reply.content)) old new
Writes ReadFault reply old new = ⊥
Writes Truncated reply old new = ⊥
