-- What contracts see of sources and sinks over std's readers and writers.
use Rattle.std.specs.Prelude.{ℕ, List, []}
use Rattle.base_io.specs.declared.standard.StdSource.{StdSource}
use Rattle.base_io.specs.declared.standard.StdSink.{StdSink}

-- the reader that input comes from
abbrev pub reader_of : {R : Type 0} → StdSource R → R
reader_of source = source.reader

-- the writer that output goes to
abbrev pub writer_of : {W : Type 0} → StdSink W → W
writer_of sink = sink.writer

-- bytes of which nothing is told
abbrev pub untold : List ℕ
untold = []
