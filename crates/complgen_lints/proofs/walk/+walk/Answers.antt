use Rattle.std.proofs.Common.{List, arith}
use Rattle.cc_command.specs.Tree.{Tree}
use Rattle.complgen_lints.proofs.Steps.{child_smaller}
use Rattle.complgen_lints.proofs.walk.+walk.Goals as goal

pub push_children-push_tree-requires : goal.push_children-push_tree-requires
push_children-push_tree-requires t c =
    let children : List Tree = c.args.children.now in
    let child : Tree = c.index-children-index.result in
    (omega (arith, child_smaller children c.loop-index.index child c.loop-index-test.true c.index-children-index.is), tt)
