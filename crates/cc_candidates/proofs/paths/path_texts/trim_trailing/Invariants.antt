-- The part that is cut off begins with an ASCII byte.
use Rattle.std.proofs.Common.{◌≡◌, ◌≤◌, ◌<◌, length, get_or}
use Rattle.std.specs.Path.{trimmed_len}
use Rattle.cc_candidates.proofs.paths.path_texts.trim_trailing.Given as goal

abbrev pub invariant-loop-end : goal.invariant-loop-end
invariant-loop-end l = record {
  within : l.end ≤ length l.path;
  same : trimmed_len l.path (length l.path) ≡ trimmed_len l.path l.end;
  ascii : l.end < length l.path → get_or l.path l.end 0 < 128;
}

abbrev pub decreases-loop-end : goal.decreases-loop-end
decreases-loop-end l = l.end
