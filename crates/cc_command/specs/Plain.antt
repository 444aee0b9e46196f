-- Plain trees: a script can contain their names unchanged.
use Rattle.std.specs.Prelude.{ℕ, List, [], ◌∷◌, ◌++◌, Bool, true, not, ◌&&◌, ◌==◌, Option, Some, None}
use Rattle.std.specs.List.{list_all}
use Rattle.std.specs.Char.{is_ascii_alphanumeric}
use Rattle.cc_base.specs.Bytes.{single_quote}
use Rattle.cc_arg.specs.declared.parts.ArgParts.{ArgParts as Arg}
use Rattle.cc_command.specs.declared.node.Node.{Node}
use Rattle.cc_command.specs.Tree.{Forest, none, more, Tree}
use Rattle.cc_base.specs.PlainName.{is_plain_name}
use Rattle.cc_command.specs.Names.{contains_name}

-- the value passes the test, or there is no value
abbrev pub passes_if_some : {A : Type 0} → (A → Bool) → Option A → Bool
passes_if_some passes None = true
passes_if_some passes (Some value) = passes value

-- no byte is a single quote
abbrev pub has_no_quote : List ℕ → Bool
has_no_quote text = list_all (λ byte. not (byte == single_quote)) text

-- shorts are letters or digits, longs are plain names, and the id and the value names contain no
-- quote
abbrev pub is_plain_argument : Arg → Bool
is_plain_argument argument =
    has_no_quote argument.id &&
    (list_all has_no_quote argument.value_names &&
    (passes_if_some is_ascii_alphanumeric argument.short &&
    (list_all is_ascii_alphanumeric argument.visible_short_aliases &&
    (list_all is_ascii_alphanumeric argument.short_aliases &&
    (passes_if_some is_plain_name argument.long &&
    (list_all is_plain_name argument.visible_aliases &&
    list_all is_plain_name argument.aliases))))))

-- the name and the aliases are plain names, and the arguments are plain
abbrev pub is_plain_node : Node → Bool
is_plain_node node =
    is_plain_name node.name &&
    (list_all is_plain_name node.visible_aliases &&
    (list_all is_plain_name node.aliases &&
    list_all is_plain_argument node.arguments))

-- all names of a command
abbrev pub names_of : Node → List (List ℕ)
names_of node = node.name ∷ (node.visible_aliases ++ node.aliases)

-- no text appears twice
abbrev pub all_differ : List (List ℕ) → Bool
all_differ [] = true
all_differ (name ∷ names) = not (contains_name names name) && all_differ names

-- all names of some siblings, one sibling after another
abbrev pub names_of_all : Forest → List (List ℕ)
names_of_all none = []
names_of_all (more node below rest) = names_of node ++ names_of_all rest

-- no two names or aliases of siblings are the same, also within one command
unfoldable pub siblings_differ : Forest → Bool
siblings_differ siblings = all_differ (names_of_all siblings)

-- each node of the forest is plain, and the names of its children differ
abbrev pub is_plain_forest : Forest → Bool
is_plain_forest none = true
is_plain_forest (more node below rest) =
    is_plain_node node && (siblings_differ below && (is_plain_forest below && is_plain_forest rest))

-- the nodes of the tree are plain, the names of siblings differ, and the bin name is a plain name
-- if there is one
abbrev pub is_plain_tree : Tree → Bool
is_plain_tree tree =
    passes_if_some is_plain_name tree.node.bin_name &&
    (is_plain_node tree.node && (siblings_differ tree.children && is_plain_forest tree.children))
