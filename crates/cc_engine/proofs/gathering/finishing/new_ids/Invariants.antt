use Rattle.std.proofs.Common.{◌≡◌, ◌++◌, take, drop, length, not}
use Rattle.std.specs.Prelude.{filter}
use Rattle.cc_engine.specs.Finished.{first_of_ids}
use Rattle.cc_engine.specs.Seen.{is_seen, select}
use Rattle.cc_engine.proofs.gathering.finishing.new_ids.Given as goal

-- the marked candidates, and those of the remaining ones whose id is new
abbrev pub invariant-loop-candidate : goal.invariant-loop-candidate
invariant-loop-candidate l = record {
  count : length l.marks.items ≡ l.candidate-index;
  kept : select l.marks.items (take l.candidate-index l.candidates)
      ++ filter (λ d. not (is_seen l.seen d.id)) (first_of_ids (drop l.candidate-index l.candidates))
      ≡ first_of_ids l.candidates;
}
