-- What the ends in memory tell.
use Rattle.std.specs.Prelude.{ℕ, List, drop, Some}
use Rattle.http_edges.specs.Edge.{SourceView, SinkView}
use Rattle.http_edges.specs.declared.memory.MemorySource.{MemorySource}
use Rattle.http_edges.specs.declared.memory.MemorySink.{MemorySink}

-- the bytes of its input that were not taken
abbrev pub bytes_left : MemorySource → List ℕ
bytes_left s = drop s.taken s.input.items

-- what a source in memory shows
abbrev pub source_view : MemorySource → SourceView
source_view s = record { left = Some (bytes_left s); faults = s.faults }

-- how many bytes one call gives at most
abbrev pub chunk_of : MemorySource → ℕ
chunk_of s = s.chunk

-- what a sink in memory shows
abbrev pub sink_view : MemorySink → SinkView
sink_view k = record { written = Some k.written.items; faults = k.faults }

-- for how many bytes it has room
abbrev pub room_of : MemorySink → ℕ
room_of k = k.room
