use Rattle.std.proofs.Common.{◌≤◌, ◌-◌}
use Rattle.complgen_check.specs.Marks.{IsMark}
use Rattle.complgen_check.proofs.errors.line_numbers.mark_at.Given as goal

abbrev pub invariant-loop-mark : goal.invariant-loop-mark
invariant-loop-mark l = record {
  mark : IsMark l.bytes l.mark;
  before : l.mark.offset ≤ l.offset;
}

abbrev pub decreases-loop-mark : goal.decreases-loop-mark
decreases-loop-mark l = l.offset - l.mark.offset
