-- The parts of a sink in memory that clauses read.
use Rattle.std.specs.Prelude.{ℕ, List}
use Rattle.cc_base.specs.declared.collected.Collected.{Collected}
use Rattle.cc_base.specs.Sink.{Failures}

-- the bytes taken
abbrev pub collected_bytes : Collected → List ℕ
collected_bytes collected = collected.bytes.items

-- its failed puts
abbrev pub collected_failures : Collected → Failures
collected_failures collected = collected.failures
