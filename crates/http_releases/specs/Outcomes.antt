-- What a connection comes to.
use Rattle.std.specs.Prelude.{◌≡◌, ℕ, List, Some, ⊤}
use Rattle.http_edges.specs.Edge.{SinkView, Appends, AppendsPart}
use Rattle.http_replies.specs.Statuses.{code_of}
use Rattle.http_requests.specs.Requests.{IsCut}
use Rattle.release_rows.specs.Tables.{Tables}
use Rattle.release_rows.specs.View.{View, Rose}
use Rattle.http_releases.specs.Responses.{Response, bytes_of}
use Rattle.http_releases.specs.Due.{IsDue}
use Rattle.http_releases.specs.declared.serve.Served.{Served}
use Rattle.http_releases.specs.declared.serve.Served.TheVariants.{Done, ReadFault, WriteFault, Truncated}

-- neither the sink nor the keeper was called
pub record IsUntouched (sink0 sink1 : SinkView) (keeper0 keeper1 : View) : Type 0 where
  pub sink : sink1 ≡ sink0
  pub keeper : keeper1 ≡ keeper0

-- a reply that is due, and the tables that go with it are there
pub record IsReply (input : List ℕ) (t : Tables) (keeper0 keeper1 : View) (r : Response) : Type 0 where
  pub due : IsDue input t (Rose keeper0.faults keeper1.faults) r
  pub tables : keeper1.tables ≡ Some r.tables

-- Over an input and tables: a reply that is due was written, its status is answered, and its tables are there; or the sink failed, and a first
-- part of such a reply was written; or the source failed or ended too early, and nothing was written or changed.
abbrev pub Outcome : Served → List ℕ → Tables → SinkView → SinkView → View → View → Type 0
Outcome (Done status) input t sink0 sink1 keeper0 keeper1 =
    (r : Response) × IsReply input t keeper0 keeper1 r × (status ≡ code_of r.status) × Appends (bytes_of r) sink0 sink1
Outcome WriteFault input t sink0 sink1 keeper0 keeper1 =
    (r : Response) × IsReply input t keeper0 keeper1 r × AppendsPart (bytes_of r) sink0 sink1
Outcome ReadFault input t sink0 sink1 keeper0 keeper1 = IsUntouched sink0 sink1 keeper0 keeper1
Outcome Truncated input t sink0 sink1 keeper0 keeper1 = IsUntouched sink0 sink1 keeper0 keeper1 × IsCut input

-- what holds of every connection: one that wasn't answered touched nothing
abbrev pub Idles : Served → SinkView → SinkView → View → View → Type 0
Idles (Done status) sink0 sink1 keeper0 keeper1 = ⊤
Idles WriteFault sink0 sink1 keeper0 keeper1 = ⊤
Idles ReadFault sink0 sink1 keeper0 keeper1 = IsUntouched sink0 sink1 keeper0 keeper1
Idles Truncated sink0 sink1 keeper0 keeper1 = IsUntouched sink0 sink1 keeper0 keeper1
