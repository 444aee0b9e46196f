use Rattle.std.proofs.Common.{rules}
use Rattle.cc_generator.specs.TableStack.{items_at}
use Rattle.cc_generator.proofs.FromStack.{items_more}
use Rattle.cc_generator.proofs.table_visits.items_below.Goals as goal

pub loop-child-preserved : goal.loop-child-preserved
loop-child-preserved c =
    items_more (λ number. items_at c.args.number number c.args.keys.now)
    _ _ _ c.loop-child.child c.children-children.result.end c.loop-child-test.true (search rules) c.loop-child.invariant
