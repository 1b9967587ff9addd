-- What is seen of a source over a reader and of a sink over a writer (own rule).
use Rattle.std.specs.Prelude.{ℕ}
use Rattle.outside_io.specs.declared.standard.StdSource.{StdSource}
use Rattle.outside_io.specs.declared.standard.StdSink.{StdSink}

-- the reader below a source (own rule)
abbrev pub reader_of : {I : Type 0} → StdSource I → I
reader_of source = source.input

-- how many errors of the reader the source has counted (own rule)
abbrev pub source_faults : {I : Type 0} → StdSource I → ℕ
source_faults source = source.faults

-- the writer below a sink (own rule)
abbrev pub writer_of : {O : Type 0} → StdSink O → O
writer_of sink = sink.output

-- how many errors of the writer the sink has counted (own rule)
abbrev pub sink_faults : {O : Type 0} → StdSink O → ℕ
sink_faults sink = sink.faults
