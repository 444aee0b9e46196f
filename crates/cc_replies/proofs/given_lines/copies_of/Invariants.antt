use Rattle.std.proofs.Common.{◌≡◌, take}
use Rattle.cc_replies.proofs.given_lines.copies_of.Given as goal

abbrev pub invariant-loop-candidate : goal.invariant-loop-candidate
invariant-loop-candidate l = l.copies.items ≡ take l.candidate-index l.candidates
