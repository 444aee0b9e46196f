use Rattle.std.proofs.Common.{flat_map, length}
use Rattle.cc_base.proofs.WrittenTexts.{GoesOn}
use Rattle.cc_zsh.specs.Steps.{step_text}
use Rattle.cc_zsh.proofs.blocks.write_steps.Given as goal

abbrev pub invariant-loop-steps : goal.invariant-loop-steps
invariant-loop-steps g l = GoesOn g.W.Sink.taken g.W.Sink.failed l.initial.sink l.sink (flat_map step_text l.initial.steps) (flat_map step_text l.steps)

-- how many remain
abbrev pub decreases-loop-steps : goal.decreases-loop-steps
decreases-loop-steps g l = length l.steps
