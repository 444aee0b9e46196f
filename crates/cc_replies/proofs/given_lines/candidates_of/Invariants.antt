use Rattle.std.proofs.Common.{◌≡◌, map, take}
use Rattle.cc_replies.specs.GivenLines.{entry_candidate}
use Rattle.cc_replies.proofs.given_lines.candidates_of.Given as goal

abbrev pub invariant-loop-entry : goal.invariant-loop-entry
invariant-loop-entry l = l.candidates.items ≡ map entry_candidate (take l.entry-index l.entries)
