use Rattle.std.proofs.Common.{◌≡◌, drop}
use Rattle.std.specs.List.{list_any}
use Rattle.cc_engine.specs.Finished.{is_shown}
use Rattle.cc_engine.proofs.gathering.finishing.has_shown.Given as goal

abbrev pub invariant-loop-candidate : goal.invariant-loop-candidate
invariant-loop-candidate l = list_any is_shown (drop l.candidate-index l.candidates) ≡ list_any is_shown l.candidates
