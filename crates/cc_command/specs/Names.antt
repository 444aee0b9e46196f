-- The names of commands and arguments: the names that a command has, and its full name.
use Rattle.std.specs.Prelude.{ℕ, List, ◌∷◌, ◌++◌, Bool, false, ◌||◌, if◌then◌else◌, Option, Some, None, unwrap_or, codes}
use Rattle.std.specs.List.{list_any}
use Rattle.std.specs.Str.{bytes_eq}
use Rattle.cc_arg.specs.declared.parts.ArgParts.{ArgParts as Arg}
use Rattle.cc_command.specs.declared.node.Node.{Node}
use Rattle.cc_command.specs.Tree.{Forest, none, more, Tree}

-- one of the names is the word
abbrev pub contains_name : List (List ℕ) → List ℕ → Bool
contains_name names word = list_any (λ name. bytes_eq name word) names

-- the node's name or an alias of it, visible or hidden, is the word
abbrev pub has_name : Node → List ℕ → Bool
has_name node word = bytes_eq node.name word || contains_name node.visible_aliases word
    || contains_name node.aliases word

-- the visible names of a node: its name, then its visible aliases
abbrev pub visible_names : Node → List (List ℕ)
visible_names node = node.name ∷ node.visible_aliases

-- the first of the siblings that has the name or alias, with the commands below it
abbrev pub find_child : Forest → List ℕ → Option Tree
find_child none word = None
find_child (more node below rest) word =
    if has_name node word then Some (record { node = node; children = below })
    else find_child rest word

-- the first of the siblings that has the word as a visible name, with the commands below it
abbrev pub visible_child : Forest → List ℕ → Option Tree
visible_child none word = None
visible_child (more node below rest) word =
    if contains_name (visible_names node) word then Some (record { node = node; children = below })
    else visible_child rest word

-- one of the siblings has the name or alias
abbrev pub has_child : Forest → List ℕ → Bool
has_child none word = false
has_child (more node below rest) word = has_name node word || has_child rest word

-- one of the arguments has the id
abbrev pub has_id : List Arg → List ℕ → Bool
has_id arguments id = list_any (λ argument. bytes_eq argument.id id) arguments

-- the bin name, or the name if there is no bin name
abbrev pub full_name : Node → List ℕ
full_name node = unwrap_or node.bin_name node.name

-- the full name of a child: the full name of its parent, a space, its own name
abbrev pub joined_name : List ℕ → List ℕ → List ℕ
joined_name parent name = parent ++ codes " " ++ name
