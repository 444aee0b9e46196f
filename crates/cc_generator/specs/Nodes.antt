-- The meaning of the nodes in the code.
use Rattle.std.specs.Prelude.{List}
use Rattle.cc_generator.specs.Positions.{nodes_after}
use Rattle.cc_generator.specs.Preorder.{Levelled}
use Rattle.cc_generator.specs.declared.preorder.LevelledNode.{LevelledNode}
use Rattle.cc_generator.specs.declared.preorder.Preorder.{Preorder}

-- a node with its level
abbrev pub levelled_of : LevelledNode → Levelled
levelled_of node = record { level = node.level; tree = node.command.now }

-- the nodes that are still to come
abbrev pub nodes_left : Preorder → List Levelled
nodes_left nodes = nodes_after nodes.flat.now nodes.position.level nodes.position.number
