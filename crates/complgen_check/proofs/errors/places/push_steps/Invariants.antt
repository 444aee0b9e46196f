use Rattle.std.proofs.Common.{◌≡◌, ◌++◌, codes, drop, map}
use Rattle.std.specs.List.{flat_map}
use Rattle.std.specs.String.{string_bytes}
use Rattle.complgen_check.specs.Places.{shown_step, step_text}
use Rattle.complgen_check.proofs.errors.places.push_steps.Given as goal

-- with the steps that are left it is the whole
abbrev pub invariant-loop-step : goal.invariant-loop-step
invariant-loop-step l = string_bytes l.shown
    ++ flat_map (step_text (codes ".")) (map shown_step (drop l.step-index l.steps))
    ≡ string_bytes l.initial.shown
    ++ flat_map (step_text (codes ".")) (map shown_step l.steps)
