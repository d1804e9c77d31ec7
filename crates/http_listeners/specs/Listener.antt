-- What a listener shows, and what its calls do.
use Rattle.std.specs.Prelude.{◌≡◌, ℕ, ◌+◌, List, [], ◌∷◌, ◌++◌, Option, Some, None}
use Rattle.http_edges.specs.Edge.{SourceView, SinkView}

-- all that a connection shows of itself
pub record ConnView : Type 0 where
  pub source : SourceView
  pub sink : SinkView

-- the connection with these two ends
abbrev pub ends : SourceView → SinkView → ConnView
ends source sink = record { source = source; sink = sink }

-- all that a listener shows of itself
pub record ListenerView : Type 0 where
  -- the inputs of the connections still to come, the next one first; a listener may tell none
  pub inputs : Option (List (List ℕ))
  -- the connections that were finished, the first one first; a listener may tell none
  pub finished : Option (List ConnView)
  -- how many calls failed
  pub faults : ℕ
  -- how many connections were accepted and not finished
  pub unfinished : ℕ

-- the first input is taken, it is what the connection's source has left, and nothing was written to its sink
pub record TakesFirst (inputs : List (List ℕ)) (new : Option (List (List ℕ))) (conn : ConnView) : Type 0 where
  pub input : List ℕ
  pub rest : List (List ℕ)
  pub first : inputs ≡ input ∷ rest
  pub to_come : new ≡ Some rest
  pub left : conn.source.left ≡ Some input
  pub written : conn.sink.written ≡ Some []

-- where inputs are told, the first one is taken; else they stay untold
abbrev pub TakesInput : Option (List (List ℕ)) → Option (List (List ℕ)) → ConnView → Type 0
TakesInput None new conn = new ≡ None
TakesInput (Some inputs) new conn = TakesFirst inputs new conn

-- a connection is accepted: no call on it failed so far, and it is one more that isn't finished
pub record Takes (conn : ConnView) (old new : ListenerView) : Type 0 where
  pub source_faults : conn.source.faults ≡ 0
  pub sink_faults : conn.sink.faults ≡ 0
  pub inputs : TakesInput old.inputs new.inputs conn
  pub finished : new.finished ≡ old.finished
  pub unfinished : new.unfinished ≡ old.unfinished + 1

-- none is accepted, and all but the count of faults is as it was
pub record TakesNone (old new : ListenerView) : Type 0 where
  pub inputs : new.inputs ≡ old.inputs
  pub finished : new.finished ≡ old.finished
  pub unfinished : new.unfinished ≡ old.unfinished

-- these connections and then this one, where they are told
abbrev pub joined_by : ConnView → Option (List ConnView) → Option (List ConnView)
joined_by conn None = None
joined_by conn (Some conns) = Some (conns ++ conn ∷ [])

-- a connection is the last of those finished, and one less isn't finished
pub record Finishes (conn : ConnView) (old new : ListenerView) : Type 0 where
  pub inputs : new.inputs ≡ old.inputs
  pub finished : new.finished ≡ joined_by conn old.finished
  pub faults : new.faults ≡ old.faults
  pub unfinished : new.unfinished + 1 ≡ old.unfinished
