use Rattle.std.proofs.Common.{drop, map, flat_map}
use Rattle.cc_base.proofs.WrittenTexts.{GoesOn}
use Rattle.cc_bash.specs.Arms.{node_arm}
use Rattle.cc_bash.specs.Nodes.{labelled_of}
use Rattle.cc_bash.specs.Script.{arm_text}
use Rattle.cc_bash.proofs.arms.write_arms.Given as goal

abbrev pub invariant-loop-node : goal.invariant-loop-node
invariant-loop-node g l = GoesOn g.W.Sink.taken g.W.Sink.failed l.initial.sink l.sink (flat_map arm_text (map node_arm (map labelled_of l.nodes))) (flat_map arm_text (map node_arm (map labelled_of (drop l.node-index l.nodes))))
