use Rattle.std.proofs.Common.{◌+◌, arith}
use Rattle.cc_generator.proofs.Positions.{first_child, level_low}
use Rattle.cc_generator.proofs.preorder.next_position.Goals as goal

pub overflow_add-result : goal.overflow_add-result
overflow_add-result c =
    let children = c.children-children.ensures in
    let low = level_low c.args.flat.now children.flat c.args.position.level c.args.position.number
    c.requires.listed c.requires.level in
    omega (arith, low, children.children.after, children.first, c.if-children.true)

pub returns-then-children : goal.returns-then-children
returns-then-children c =
    let children = c.children-children.ensures in
    first_child c.args.flat.now c.args.position.level (c.args.position.level + 1) c.args.position.number
    c.children-children.result.start c.children-children.result.end (omega arith)
    children.children children.first children.end children.numbers c.if-children.true
    c.requires.level
