use Rattle.cc_replies.proofs.Cutting.{IsLeft}
use Rattle.cc_replies.proofs.given_lines.cut_at.Given as goal

-- the mark begins at none of the visited bytes
abbrev pub invariant-loop-at : goal.invariant-loop-at
invariant-loop-at l = IsLeft l.mark l.text l.at
