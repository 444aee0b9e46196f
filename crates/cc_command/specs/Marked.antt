-- The meaning of the mark on a built tree.
use Rattle.std.specs.Prelude.{◌≡◌, IsTrue}
use Rattle.cc_command.specs.Tree.{Tree}
use Rattle.cc_command.specs.Built.{built_tree}

-- building does not change a tree that is marked as built
abbrev pub StaysIfMarked : Tree → Type 0
StaysIfMarked tree = IsTrue tree.node.built → built_tree tree ≡ tree
