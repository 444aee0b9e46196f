-- The meaning of the values of the code.
use Rattle.std.specs.Prelude.{ℕ, List}
use Rattle.cc_generator.specs.Visits.{Keyed, keyed, Step, enter, leave}
use Rattle.cc_generator.specs.declared.visit.Visit.{Visit}
use Rattle.cc_generator.specs.declared.path_steps.PathStep.{PathStep}
use Rattle.cc_generator.specs.declared.path_steps.PathStep.TheVariants.{Enter, Leave}

-- a visit
abbrev pub visit_of : Visit → Keyed (List ℕ)
visit_of visit = keyed visit.key visit.above.now.node visit.command.now

-- a step
abbrev pub step_of : PathStep → Step (List ℕ)
step_of (Enter visit) = enter (visit_of visit)
step_of (Leave visit) = leave (visit_of visit)
