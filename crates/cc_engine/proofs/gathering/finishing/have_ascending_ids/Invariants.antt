use Rattle.std.proofs.Common.{◌≡◌, None, drop}
use Rattle.cc_engine.specs.Seen.{ascend_from}
use Rattle.cc_engine.proofs.gathering.finishing.have_ascending_ids.Given as goal

-- the remaining ids ascend from the last one exactly if all ids ascend
abbrev pub invariant-loop-candidate : goal.invariant-loop-candidate
invariant-loop-candidate l =
    ascend_from l.last (drop l.candidate-index l.candidates) ≡ ascend_from None l.candidates
