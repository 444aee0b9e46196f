use Rattle.std.proofs.Common.{◌≡◌, ◌++◌}
use Rattle.cc_generator.specs.Flat.{children_at, numbers_between}
use Rattle.cc_generator.specs.StepStack.{step_items}
use Rattle.cc_generator.proofs.path_steps.items_below.Given as goal

-- the items so far and those of the remaining children make up the whole
abbrev pub invariant-loop-child : goal.invariant-loop-child
invariant-loop-child g l =
    l.items.items ++ step_items l.flat (g.K.KeyScheme.child_key l.keys) l.number l.key (numbers_between l.child l.child-end) ≡ step_items l.flat (g.K.KeyScheme.child_key l.keys) l.number l.key (children_at l.flat l.number)
