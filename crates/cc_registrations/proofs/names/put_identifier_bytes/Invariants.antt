use Rattle.std.proofs.Common.{drop, map}
use Rattle.cc_base.proofs.WrittenTexts.{GoesOn}
use Rattle.cc_registrations.specs.Names.{identifier_byte}
use Rattle.cc_registrations.proofs.names.put_identifier_bytes.Given as goal

abbrev pub invariant-loop-byte : goal.invariant-loop-byte
invariant-loop-byte g l =
    GoesOn g.W.Sink.taken g.W.Sink.failed l.initial.sink l.sink (map identifier_byte l.text)
    (map identifier_byte (drop l.byte-index l.text))
