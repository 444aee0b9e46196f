-- The parts of a counting sink that clauses read.
use Rattle.std.specs.Prelude.{ℕ, List}
use Rattle.cc_base.specs.declared.counted.Counted.{Counted}
use Rattle.cc_base.specs.Sink.{Failures}

-- the writer to which the bytes are passed
abbrev pub counted_writer : {W : Type 0} → Counted W → W
counted_writer counted = counted.writer

-- the bytes taken
abbrev pub counted_bytes : {W : Type 0} → Counted W → List ℕ
counted_bytes counted = counted.history.bytes

-- its failed writes and flushes
abbrev pub counted_failures : {W : Type 0} → Counted W → Failures
counted_failures counted = counted.failures
