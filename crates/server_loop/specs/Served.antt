-- What becomes of the connections that a server accepts.
use Rattle.std.specs.Prelude.{◌≡◌, ◌==◌, ◌≤◌, ◌+◌, ℕ, List, [], ◌∷◌, Some, if◌then◌else◌}
use Rattle.http_edges.specs.Edge.{SinkView}
use Rattle.http_listeners.specs.Listener.{ConnView}
use Rattle.http_releases.specs.Outcomes.{Outcome}
use Rattle.http_releases.specs.declared.serve.Served.{Served}
use Rattle.http_releases.specs.declared.serve.Served.TheVariants.{Done, ReadFault, WriteFault, Truncated}
use Rattle.release_rows.specs.Tables.{Tables}
use Rattle.release_rows.specs.View.{View}

-- a sink to which nothing was written, and on which no call failed
abbrev pub unwritten : SinkView
unwritten = record { written = Some []; faults = 0 }

-- A connection that gave this input was served over the tables so far. It has one of five forms:
-- `Done` with the release machine's answer to a request: its reply was written, and the tables are those that go with it;
-- `Done` with the refusal of an input that is no request: that was written, and the tables stay;
-- `Done` with 503 or 507: that the keeper failed or that there was no memory was written, and the tables stay;
-- `Truncated`: the input is cut, nothing was written, and the tables stay;
-- `WriteFault` or `ReadFault`: a count of its own is above 0, and a first part of such a reply was written, whose tables are there, or nothing
-- was written, and the tables stay.
pub record IsServed (served : Served) (input : List ℕ) (conn : ConnView) (before after : View) : Type 0 where
  pub tables : Tables
  pub next : Tables
  pub told : before.tables ≡ Some tables
  pub told_after : after.tables ≡ Some next
  pub outcome : Outcome served input tables unwritten conn.sink before after
  pub read_fault : served ≡ ReadFault → 1 ≤ conn.source.faults
  pub write_fault : served ≡ WriteFault → 1 ≤ conn.sink.faults
  pub later : before.faults ≤ after.faults

-- 1 for a connection that was answered that the keeper failed
abbrev pub busy_of : Served → ℕ
busy_of (Done status) = (if status == 503 then 1 else 0)
busy_of ReadFault = 0
busy_of WriteFault = 0
busy_of Truncated = 0

-- these inputs and these connections belong together in their order, each was served over what the one before it left, and so many of them were
-- answered that the keeper failed
pub data AreServed : ℕ → List (List ℕ) → List ConnView → View → View → Type 0 where
  none : (v : View) → AreServed 0 [] [] v v
  more : (served : Served) (busy : ℕ) (input : List ℕ) (inputs : List (List ℕ)) (conn : ConnView) (conns : List ConnView) (u v w : View)
      → IsServed served input conn u v → AreServed busy inputs conns v w → AreServed (busy_of served + busy) (input ∷ inputs) (conn ∷ conns) u w
