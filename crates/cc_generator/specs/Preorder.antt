-- The nodes of a tree in preorder, each with its level.
use Rattle.std.specs.Prelude.{ℕ, suc, List, [], ◌∷◌, ◌++◌}
use Rattle.cc_command.specs.Tree.{Forest, none, more, Tree}

-- a node with everything below it, and the number of names in its path, including the root's name
pub record Levelled : Type 0 where
  pub level : ℕ
  pub tree : Tree

-- siblings at this level: a node, everything below it, then the siblings after it
abbrev pub preorder : ℕ → Forest → List Levelled
preorder level none = []
preorder level (more node below rest) =
    (record { level = level; tree = record { node = node; children = below } })
    ∷ (preorder (suc level) below ++ preorder level rest)
