use Rattle.std.proofs.Common.{◌≡◌, length}
use Rattle.cc_base.specs.Found.{without_blanks}
use Rattle.cc_replies.proofs.given_lines.without_blanks.Given as goal

abbrev pub invariant-loop-first : goal.invariant-loop-first
invariant-loop-first l = without_blanks l.rest ≡ without_blanks l.text

abbrev pub decreases-loop-first : goal.decreases-loop-first
decreases-loop-first l = length l.rest
