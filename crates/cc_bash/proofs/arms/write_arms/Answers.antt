use Rattle.std.proofs.Common.{◌≡◌, ap, flat_map, map, refl, rules}
use Rattle.cc_base.proofs.Lists.{one_more}
use Rattle.cc_base.proofs.WrittenTexts.{writes_same}
use Rattle.cc_bash.specs.Arms.{arm_of, node_arm}
use Rattle.cc_bash.specs.Nodes.{labelled_of}
use Rattle.cc_bash.specs.Script.{arm_text}
use Rattle.cc_bash.proofs.TextLoops.{goes_next}
use Rattle.cc_bash.proofs.arms.write_arms.Goals as goal

pub loop-node-preserved : goal.loop-node-preserved
loop-node-preserved g c =
    let item = c.node-item.result in
    let label : c.as_str.result.now ≡ item.label = search rules in
    goes_next (λ nodes. flat_map arm_text (map node_arm (map labelled_of nodes))) _ _ (one_more c.args.nodes.now c.loop-node.node-index item item c.loop-node-test.true c.node-item.is) refl c.loop-node.invariant (writes_same _ _ (ap (λ l. arm_text (arm_of l item.level item.command.now)) label) c.in_ok-write_arm.ensures)
