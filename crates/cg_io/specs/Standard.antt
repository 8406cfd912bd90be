-- What is told of a reader or a writer of std that counts its faults.
use Rattle.std.specs.Prelude.{ℕ}
use Rattle.cg_io.specs.declared.standard.StdSource.{StdSource}
use Rattle.cg_io.specs.declared.standard.StdSink.{StdSink}

-- the reader that a source stands for
abbrev pub reader_of : {R : Type 0} → StdSource R → R
reader_of source = source.inner

-- how many reads of it failed
abbrev pub read_faults : {R : Type 0} → StdSource R → ℕ
read_faults source = source.faults

-- the writer that a sink stands for
abbrev pub writer_of : {W : Type 0} → StdSink W → W
writer_of sink = sink.inner

-- how many writes to it failed
abbrev pub write_faults : {W : Type 0} → StdSink W → ℕ
write_faults sink = sink.faults
