-- What a listener in memory tells, and what it does beside.
use Rattle.std.specs.Prelude.{◌≡◌, List, [], ◌∷◌, map, Some, Result, Ok, Err}
use Rattle.http_edges.specs.declared.edge.Failed.{Failed}
use Rattle.http_listeners.specs.declared.memory.MemoryListener.{MemoryListener}
use Rattle.http_listeners.specs.Listener.{ListenerView}
use Rattle.http_listeners.specs.Conns.{MemoryConn, conn_view, input_of}

-- the connections still to come, the next one first
abbrev pub to_come : MemoryListener → List MemoryConn
to_come l = l.waiting.items

-- the connections that were finished, the first one first
abbrev pub finished_conns : MemoryListener → List MemoryConn
finished_conns l = l.finished.items

-- what a listener in memory shows
abbrev pub listener_view : MemoryListener → ListenerView
listener_view l = record {
  inputs = Some (map input_of (to_come l));
  finished = Some (map conn_view (finished_conns l));
  faults = l.faults;
  unfinished = l.unfinished;
}

-- the first of those connections is handed out, and there is a failure exactly where there is none
abbrev pub HandsOut : Result MemoryConn Failed → List MemoryConn → List MemoryConn → Type 0
HandsOut (Ok conn) old new = old ≡ conn ∷ new
HandsOut (Err failed) old new = (old ≡ []) × (new ≡ [])
