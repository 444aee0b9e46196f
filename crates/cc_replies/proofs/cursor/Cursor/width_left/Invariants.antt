use Rattle.std.proofs.Common.{◌≡◌, ◌≤◌, ◌-◌, drop, min}
use Rattle.cc_replies.specs.BashList.{longest_word}
use Rattle.cc_replies.proofs.cursor.Cursor.width_left.Given as goal

-- the least of the columns so far and of those beside the remaining words
abbrev pub invariant-loop-candidate : goal.invariant-loop-candidate
invariant-loop-candidate l = record {
  least : min l.least (l.self.width - longest_word l.self (drop l.candidate-index l.candidates))
      ≡ l.self.width - longest_word l.self l.candidates;
  within : l.least ≤ l.self.width;
}
