-- The parts of a `Held` sink that clauses read.
use Rattle.std.specs.Prelude.{ℕ, List}
use Rattle.std.specs.declared.option.Option.{Option}
use Rattle.cc_base.specs.declared.held.Held.{Held}
use Rattle.cc_base.specs.Counted.{counted_failures, counted_writer}
use Rattle.cc_base.specs.Sink.{Failures}
use Rattle.cc_base.specs.Told.{told}

-- the writer
abbrev pub held_writer : {W : Type 0} {g : _} → Held W g → W
held_writer held = counted_writer held.sink

-- the bytes that the writer holds
abbrev pub held_bytes : {W : Type 0} {g : _} → (W → Option (List ℕ)) → Held W g → List ℕ
held_bytes contents held = told (contents (held_writer held))

-- its failed writes and flushes
abbrev pub held_failures : {W : Type 0} {g : _} → Held W g → Failures
held_failures held = counted_failures held.sink
