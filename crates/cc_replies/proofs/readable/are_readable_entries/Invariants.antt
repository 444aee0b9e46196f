use Rattle.std.proofs.Common.{◌≡◌, drop}
use Rattle.cc_replies.specs.PowershellEntries.{are_readable_entries}
use Rattle.cc_replies.proofs.readable.are_readable_entries.Given as goal

abbrev pub invariant-loop-candidate : goal.invariant-loop-candidate
invariant-loop-candidate l =
    are_readable_entries (drop l.candidate-index l.candidates) ≡ are_readable_entries l.candidates
