-- The bytes after the end belong to no whole line.
use Rattle.std.proofs.Common.{◌≡◌, ◌≤◌, take}
use Rattle.cc_lines.specs.ValueFiles.{whole_lines}
use Rattle.cc_lines.proofs.value_files.first_lines.Given as goal

abbrev pub invariant-loop-end : goal.invariant-loop-end
invariant-loop-end l = record {
  within : l.end ≤ l.limit;
  same : whole_lines (take l.limit l.bytes) ≡ whole_lines (take l.end l.bytes);
}

abbrev pub decreases-loop-end : goal.decreases-loop-end
decreases-loop-end l = l.end
