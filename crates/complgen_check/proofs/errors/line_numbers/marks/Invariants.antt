use Rattle.std.proofs.Common.{All, ◌-◌, length}
use Rattle.complgen_check.specs.Marks.{IsMark}
use Rattle.complgen_check.proofs.errors.line_numbers.marks.Given as goal

-- each mark is right, and so is the last one
abbrev pub invariant-loop-mark : goal.invariant-loop-mark
invariant-loop-mark l = record {
  last : IsMark l.bytes l.mark;
  marks : All (IsMark l.bytes) l.marks.items;
}

abbrev pub decreases-loop-mark : goal.decreases-loop-mark
decreases-loop-mark l = length l.bytes - l.mark.offset
