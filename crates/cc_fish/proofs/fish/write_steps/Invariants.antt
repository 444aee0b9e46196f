use Rattle.std.proofs.Common.{flat_map, length}
use Rattle.cc_base.proofs.WrittenTexts.{GoesOn}
use Rattle.cc_generator.specs.Visits.{where_entered}
use Rattle.cc_fish.specs.Script.{visit_text}
use Rattle.cc_fish.proofs.fish.write_steps.Given as goal

abbrev pub invariant-loop-front : goal.invariant-loop-front
invariant-loop-front g l = GoesOn g.W.Sink.taken g.W.Sink.failed l.initial.sink l.sink (flat_map (where_entered (visit_text l.bin_name l.function)) l.initial.steps) (flat_map (where_entered (visit_text l.bin_name l.function)) l.steps)

-- how many remain
abbrev pub decreases-loop-front : goal.decreases-loop-front
decreases-loop-front g l = length l.steps
