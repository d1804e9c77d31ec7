-- What connections over TCP show: their faults, and how many aren't finished. Of bytes they tell nothing.
use Rattle.std.specs.Prelude.{ℕ, None}
use Rattle.http_edges.specs.Edge.{SourceView, SinkView}
use Rattle.http_listeners.specs.Listener.{ListenerView}
use Rattle.tcp_connections.specs.declared.input.TcpInput.{TcpInput}
use Rattle.tcp_connections.specs.declared.output.TcpOutput.{TcpOutput}
use Rattle.tcp_connections.specs.declared.connections.TcpConnections.{TcpConnections}

-- what a source shows that doesn't tell the bytes left
abbrev pub untold_source : ℕ → SourceView
untold_source faults = record { left = None; faults = faults }

-- what a sink shows that doesn't tell the bytes written
abbrev pub untold_sink : ℕ → SinkView
untold_sink faults = record { written = None; faults = faults }

-- what a listener shows that tells neither the inputs to come nor the finished connections
abbrev pub untold_listener : ℕ → ℕ → ListenerView
untold_listener faults unfinished = record { inputs = None; finished = None; faults = faults; unfinished = unfinished }

-- what the input of a connection shows
abbrev pub input_view : {R : Type 0} → TcpInput R → SourceView
input_view i = untold_source i.faults

-- what the output of a connection shows
abbrev pub output_view : {R : Type 0} → TcpOutput R → SinkView
output_view o = untold_sink o.faults

-- what connections over TCP show
abbrev pub connections_view : {R : Type 0} → TcpConnections R → ListenerView
connections_view t = untold_listener t.faults t.unfinished
