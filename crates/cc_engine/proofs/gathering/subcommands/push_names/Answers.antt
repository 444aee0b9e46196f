use Rattle.std.proofs.Common.{◌∙◌}
use Rattle.cc_candidates.specs.Beginning.{begins}
use Rattle.cc_engine.specs.Children.{child_candidate}
use Rattle.cc_engine.proofs.Filters.{mapped_added}
use Rattle.cc_engine.proofs.gathering.subcommands.push_names.Goals as goal

pub loop-name-preserved : goal.loop-name-preserved
loop-name-preserved c =
    mapped_added (begins c.args.word.now) (child_candidate c.args.of.now.parent.now.node c.args.of.now.child.now.node c.args.of.now.hidden) c.loop-name.found.items c.push_name.new.found.items _ c.args.names.now
    c.loop-name.name-index c.name-item.result c.as_str.result.now c.loop-name-test.true (c.as_str.ensures.text ∙ c.name-item.is) c.loop-name.invariant c.in_ok-push_name.ensures
