-- The names by which the commands below a command are shown, each with the full name of its
-- command; and the command to which a path of words leads.
use Rattle.std.specs.Prelude.{ℕ, List, [], ◌∷◌, ◌++◌, map, Option, Some, String, string_bytes}
use Rattle.std.specs.Global.{Global}
use Rattle.std.specs.Option.{option_and_then}
use Rattle.cc_command.specs.Tree.{Forest, none, more, Tree}
use Rattle.cc_command.specs.Names.{find_child, full_name, visible_names}
use Rattle.cc_command.specs.declared.node.Node.{Node}

-- pairs of texts as their bytes
abbrev pub texts_of : List (String Global × String Global) → List (List ℕ × List ℕ)
texts_of pairs = map (λ pair. (string_bytes pair.0, string_bytes pair.1)) pairs

-- the visible names of siblings, one sibling after another
abbrev pub sibling_names : Forest → List (List ℕ)
sibling_names none = []
sibling_names (more node below rest) = visible_names node ++ sibling_names rest

-- each visible name of a node, with the node's full name
unfoldable pub named : Node → List (List ℕ × List ℕ)
named node = map (λ name. (name, full_name node)) (visible_names node)

-- the same for each sibling, in order
abbrev pub named_siblings : Forest → List (List ℕ × List ℕ)
named_siblings none = []
named_siblings (more node below rest) = named node ++ named_siblings rest

-- the same for everything below some siblings: for each sibling its children, then everything below
-- those, before the next sibling
abbrev pub named_below : Forest → List (List ℕ × List ℕ)
named_below none = []
named_below (more node below rest) = (named_siblings below ++ named_below below) ++ named_below rest

-- the same for siblings, then for everything below them
abbrev pub all_named : Forest → List (List ℕ × List ℕ)
all_named forest = named_siblings forest ++ named_below forest

-- the command to which a path of words leads: each word leads to the first child with that name or
-- alias
abbrev pub find_path : Tree → List (List ℕ) → Option Tree
find_path tree [] = Some tree
find_path tree (word ∷ path) =
    option_and_then (λ child. find_path child path) (find_child tree.children word)
