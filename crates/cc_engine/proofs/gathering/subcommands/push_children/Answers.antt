use Rattle.cc_candidates.specs.Beginning.{begins}
use Rattle.cc_engine.proofs.Filters.{child_added}
use Rattle.cc_engine.proofs.gathering.subcommands.push_children.Goals as goal

pub loop-child-preserved : goal.loop-child-preserved
loop-child-preserved c =
    child_added (begins c.args.word.now) c.args.parent.now.node c.loop-child.found.items c.push_child.new.found.items _ c.args.siblings.now
    c.loop-child.child-index c.child-item.result c.loop-child-test.true c.child-item.is c.loop-child.invariant c.in_ok-push_child.ensures
