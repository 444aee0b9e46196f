use Rattle.std.proofs.Common.{◌≡◌, drop}
use Rattle.cc_replies.specs.Reply.{are_readable_values}
use Rattle.cc_replies.proofs.readable.are_readable_values.Given as goal

abbrev pub invariant-loop-candidate : goal.invariant-loop-candidate
invariant-loop-candidate l =
    are_readable_values l.separator (drop l.candidate-index l.candidates) ≡ are_readable_values l.separator l.candidates
