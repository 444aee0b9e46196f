use Rattle.std.proofs.Common.{◌≡◌, ◌++◌, drop, map}
use Rattle.complgen_check.specs.Places.{shown_step}
use Rattle.complgen_check.specs.Checking.{command_steps}
use Rattle.complgen_check.proofs.checking.command_steps.Given as goal

-- the steps so far and the remaining ones make the whole
abbrev pub invariant-loop-index : goal.invariant-loop-index
invariant-loop-index l = map shown_step l.steps.items
    ++ command_steps (drop l.index-index l.children) ≡ command_steps l.children
