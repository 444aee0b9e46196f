-- The node to which words lead by all names, visible and hidden.
use Rattle.std.specs.Prelude.{ℕ, List, [], ◌∷◌, unwrap_or}
use Rattle.cc_command.specs.Tree.{Tree}
use Rattle.cc_command.specs.Names.{find_child}

-- the node that is reached if each word that names a child, by its name or an alias, leads to it,
-- and all other words are ignored
abbrev pub reached : Tree → List (List ℕ) → Tree
reached tree [] = tree
reached tree (word ∷ words) = reached (unwrap_or (find_child tree.children word) tree) words
