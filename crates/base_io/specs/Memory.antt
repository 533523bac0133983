-- What contracts see of a source and a sink in memory.
use Rattle.std.specs.Prelude.{ℕ, List, drop}
use Rattle.base_outside.specs.declared.calls.Calls.{Calls}
use Rattle.base_io.specs.declared.memory.MemSource.{MemSource}
use Rattle.base_io.specs.declared.memory.MemSink.{MemSink}

-- the bytes that are left of an input
abbrev pub left_of : MemSource → List ℕ
left_of source = drop source.taken source.bytes

-- its calls so far
abbrev pub source_calls : MemSource → Calls
source_calls source = source.calls

-- the bytes that were output
abbrev pub got_by : MemSink → List ℕ
got_by sink = sink.bytes

-- its calls so far
abbrev pub sink_calls : MemSink → Calls
sink_calls sink = sink.calls
