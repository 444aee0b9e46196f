-- The part that is cut off ends with an ASCII byte.
use Rattle.std.proofs.Common.{◌≡◌, ◌-◌, ◌≤◌, ◌<◌, length, get_or, drop}
use Rattle.cc_candidates.specs.PathTexts.{past_leading}
use Rattle.cc_candidates.proofs.paths.path_texts.past_leading.Given as goal

abbrev pub invariant-loop-start : goal.invariant-loop-start
invariant-loop-start l = record {
  within : l.start ≤ length l.path;
  same : past_leading (drop l.start l.path) ≡ past_leading l.path;
  ascii : 0 < l.start → get_or l.path (l.start - 1) 0 < 128;
}

abbrev pub decreases-loop-start : goal.decreases-loop-start
decreases-loop-start l = length l.path - l.start
