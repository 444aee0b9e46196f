use Rattle.std.proofs.Common.{rules}
use Rattle.cc_generator.specs.Flat.{tree_at}
use Rattle.cc_generator.specs.Visits.{keys_below}
use Rattle.cc_generator.specs.StepStack.{entries_at}
use Rattle.cc_generator.proofs.FromStack.{items_more}
use Rattle.cc_generator.proofs.path_steps.items_below.Goals as goal

pub loop-child-preserved : goal.loop-child-preserved
loop-child-preserved g c =
    items_more (λ number. entries_at c.args.number number (keys_below (g.K.KeyScheme.child_key c.args.keys.now) c.args.key.now (tree_at c.args.flat.now number).node))
    _ _ _ c.loop-child.child c.children-children.result.end c.loop-child-test.true (search rules) c.loop-child.invariant
