use Rattle.std.proofs.Common.{length}
use Rattle.cc_base.proofs.WrittenTexts.{GoesOn}
use Rattle.cc_registrations.specs.AllQuotes.{all_escaped}
use Rattle.cc_registrations.proofs.all_quotes.put_all_escaped.Given as goal

abbrev pub invariant-loop-byte : goal.invariant-loop-byte
invariant-loop-byte g l =
    GoesOn g.W.Sink.taken g.W.Sink.failed l.initial.sink l.sink (all_escaped l.text) (all_escaped l.rest)

abbrev pub decreases-loop-byte : goal.decreases-loop-byte
decreases-loop-byte g l = length l.rest
