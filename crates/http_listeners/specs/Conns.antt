-- What a connection in memory tells.
use Rattle.std.specs.Prelude.{◌≡◌, ℕ, List, [], Some}
use Rattle.http_edges.specs.Memory.{bytes_left, source_view, sink_view}
use Rattle.http_edges.specs.declared.memory.MemorySource.{MemorySource}
use Rattle.http_edges.specs.declared.memory.MemorySink.{MemorySink}
use Rattle.http_listeners.specs.declared.listener.Conn.{Conn}
use Rattle.http_listeners.specs.Listener.{ConnView, ends}

-- a connection with both ends in memory
abbrev pub MemoryConn : Type 0
MemoryConn = Conn MemorySource MemorySink

-- what it shows
abbrev pub conn_view : MemoryConn → ConnView
conn_view c = ends (source_view c.input) (sink_view c.output)

-- the bytes that it has to give
abbrev pub input_of : MemoryConn → List ℕ
input_of c = bytes_left c.input

-- no call on it failed so far, and nothing was written
pub record IsFresh (c : MemoryConn) : Type 0 where
  pub source_faults : (source_view c.input).faults ≡ 0
  pub sink_faults : (sink_view c.output).faults ≡ 0
  pub written : (sink_view c.output).written ≡ Some []
