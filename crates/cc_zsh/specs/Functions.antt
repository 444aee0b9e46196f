-- The functions of a script, each of which describes the children of a node.
use Rattle.std.specs.Prelude.{ℕ, List, [], ◌∷◌, ◌++◌, map, Bool, true, false, if◌then◌else◌, Option, Some, None, unwrap_or, codes, bytes_eq}
use Rattle.std.specs.List.{flat_map}
use Rattle.std.specs.Ordering.{is_lt, nat_cmp}
use Rattle.std.specs.Cmp.Lexicographic.{slice_cmp}
use Rattle.cc_base.specs.Sorting.{in_order}
use Rattle.cc_command.specs.declared.node.Node.{Node}
use Rattle.cc_command.specs.Names.{full_name, visible_names}
use Rattle.cc_command.specs.Tree.{Forest, none, more, Tree}
use Rattle.cc_quote.specs.ZshQuote.{zsh_escaped_help}
use Rattle.cc_zsh.specs.Nested.{function_label}

-- ---- the functions of a tree

-- a visible name of a child, with the child's description if there is one
pub record Entry : Type 0 where
  pub word : List ℕ
  pub help : List ℕ

abbrev pub entry : Node → List ℕ → Entry
entry node word = record { word = word; help = unwrap_or node.about [] }

-- the entries of siblings
abbrev pub entries_of : Forest → List Entry
entries_of none = []
entries_of (more node below rest) = map (entry node) (visible_names node) ++ entries_of rest

-- a node's full name, and the visible names of its children
pub record Function : Type 0 where
  pub name : List ℕ
  pub entries : List Entry

abbrev pub function_of : Node → Forest → Function
function_of node children = record { name = full_name node; entries = entries_of children }

-- the functions of the nodes of a forest: of a node, of everything below it, then of the nodes
-- after it
abbrev pub functions_below : Forest → List Function
functions_below none = []
functions_below (more node below rest) =
    function_of node below ∷ (functions_below below ++ functions_below rest)

-- whether one name comes before another by its bytes
abbrev pub function_below : Function → Function → Bool
function_below one other = is_lt (slice_cmp nat_cmp one.name other.name)

-- whether a name equals the name before it
abbrev pub is_again : Option (List ℕ) → List ℕ → Bool
is_again None name = false
is_again (Some last) name = bytes_eq last name

-- the first of neighbours with the same name, unless it has the name before them
abbrev pub once_after : Option (List ℕ) → List Function → List Function
once_after last [] = []
once_after last (function ∷ functions) =
    if is_again last function.name then once_after last functions
    else function ∷ once_after (Some function.name) functions

-- the functions of the nodes of a forest, sorted by the bytes of their names, each name once
unfoldable pub sorted_functions : Forest → List Function
sorted_functions children = once_after None (in_order function_below (functions_below children))

-- the root's function, then those of the nodes below it
abbrev pub tree_functions : Tree → List Function
tree_functions tree = function_of tree.node tree.children ∷ sorted_functions tree.children

-- ---- the texts of functions

unfoldable pub unless_defined : List ℕ
unless_defined = codes "(( $+functions[_"

unfoldable pub function_begins : List ℕ
function_begins = codes "] )) ||\n_"

unfoldable pub commands_begin : List ℕ
commands_begin = codes "() {\n    local commands; commands=("

unfoldable pub describe_begins : List ℕ
describe_begins = codes ")\n    _describe -t commands '"

unfoldable pub describe_ends : List ℕ
describe_ends = codes " commands' commands \"$@\"\n}\n"

-- a child's name with its description, on its own line
unfoldable pub entry_text : Entry → List ℕ
unfolding zsh_escaped_help
entry_text e =
    codes "\n'" ++ e.word ++ codes ":" ++ zsh_escaped_help e.help ++ codes "' \\"

unfoldable pub entries_end : List ℕ
entries_end = codes "\n    "

-- whether there is an entry
abbrev pub has_entries : List Entry → Bool
has_entries [] = false
has_entries (_ ∷ _) = true

-- all entries, if there are any
unfoldable pub entries_text : List Entry → List ℕ
entries_text entries =
    if has_entries entries then flat_map entry_text entries ++ entries_end else []

-- a function, with a line feed at its end
unfoldable pub function_text : Function → List ℕ
function_text function =
    unless_defined ++ function_label function.name ++ function_begins
    ++ function_label function.name ++ commands_begin ++ entries_text function.entries
    ++ describe_begins ++ function.name ++ describe_ends
