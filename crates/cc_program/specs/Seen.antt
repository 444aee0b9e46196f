-- Streams, as the bytes that they have taken and their failures.
use Rattle.std.specs.Prelude.{ℕ, List, []}
use Rattle.cc_base.specs.Sink.{none_failed}
use Rattle.cc_base.specs.declared.failures.Failures.{Failures}
use Rattle.cc_base.specs.declared.sink.Sink.{Ghosts}
use Rattle.cc_program.specs.declared.streams.Streams.{Streams}

-- the bytes that a stream has taken, and its failures
pub record Seen : Type 0 where
  pub bytes : List ℕ
  pub failures : Failures

abbrev pub seen_by : Ghosts Seen
seen_by = record { taken = λ seen. seen.bytes; failed = λ seen. seen.failures }

abbrev pub seen_of : {S : Type 0} → Ghosts S → S → Seen
seen_of sink stream = record { bytes = sink.taken stream; failures = sink.failed stream }

-- two streams, as what they have taken
abbrev pub seen_streams : {O X : Type 0} → Ghosts O → Ghosts X → Streams O X → Streams Seen Seen
seen_streams out err streams =
    record { out = seen_of out streams.out; err = seen_of err streams.err }

-- streams that have taken nothing and have not failed
abbrev pub unused : Streams Seen Seen
unused = record {
  out = record { bytes = []; failures = none_failed };
  err = record { bytes = []; failures = none_failed };
}
