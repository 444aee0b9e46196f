-- The blocks of a script: the options and words offered at a node, and the arms of its children.
use Rattle.std.specs.Prelude.{ℕ, suc, List, [], ◌∷◌, ◌++◌, if◌then◌else◌, codes, length}
use Rattle.std.specs.List.{flat_map}
use Rattle.std.specs.Fmt.{decimal}
use Rattle.cc_command.specs.declared.node.Node.{Node}
use Rattle.cc_command.specs.ArgumentLists.{positionals}
use Rattle.cc_command.specs.Names.{full_name, visible_names}
use Rattle.cc_command.specs.Tree.{Forest, none, more, Tree, has_nodes}
use Rattle.cc_base.specs.Bytes.{line_feed, space}
use Rattle.cc_quote.specs.Escapes.{replace_byte}
use Rattle.cc_zsh.specs.Options.{flags_text, options_text}
use Rattle.cc_zsh.specs.Positionals.{positionals_text}

-- the name of the function that describes a node's children, without the first `_`
abbrev pub function_label : List ℕ → List ℕ
function_label name = replace_byte space (codes "__subcmd__") name ++ codes "_commands"

-- ---- what is offered at a node

unfoldable pub block_begins : List ℕ
block_begins = codes "_arguments \"${_arguments_options[@]}\" : \\\n"

unfoldable pub block_ends : List ℕ
block_ends = codes "&& ret=0"

unfoldable pub external_text : List ℕ
external_text = codes "\"*::external_command:_default\" \\\n"

unfoldable pub command_begins : List ℕ
command_begins = codes "\":: :_"

unfoldable pub state_begins : List ℕ
state_begins = codes "\" \\\n\"*::: :->"

unfoldable pub state_ends : List ℕ
state_ends = codes "\" \\\n"

-- the children: the function that describes them, and the name of the node, which leads to its arms
unfoldable pub children_text : Node → List ℕ
children_text node =
    command_begins ++ function_label (full_name node) ++ state_begins ++ node.name
    ++ state_ends

-- the text for the words after the options and positionals: the children, or, if there are none,
-- commands from outside the tree if the node allows them
unfoldable pub below_text : Tree → List ℕ
below_text tree =
    if has_nodes tree.children then children_text tree.node
    else (if tree.node.allow_external_subcommands then external_text else [])

-- the block of a tree, given the node above it
unfoldable pub block_text : Node → Tree → List ℕ
block_text above tree =
    block_begins ++ options_text above tree.node ++ flags_text above tree.node
    ++ positionals_text tree ++ below_text tree ++ block_ends

-- ---- the arms of a node's children

unfoldable pub case_state : List ℕ
case_state = codes "\n    case $state in\n    ("

unfoldable pub set_words : List ℕ
set_words = codes ")\n        words=($line["

unfoldable pub set_context : List ℕ
set_context =
    codes "] \"${words[@]}\")\n        (( CURRENT += 1 ))\n        curcontext=\"${curcontext%:*:*}:"

unfoldable pub context_command : List ℕ
context_command = codes "-command-$line["

unfoldable pub case_line : List ℕ
case_line = codes "]:\"\n        case $line["

unfoldable pub case_line_in : List ℕ
case_line_in = codes "] in\n            "

unfoldable pub nested_ends : List ℕ
nested_ends = codes "        esac\n    ;;\nesac"

-- the index of the word that names a child, which comes after the positionals
abbrev pub index_text : Node → List ℕ
index_text node = decimal (suc (length (positionals node)))

-- the full name, with dashes instead of spaces
abbrev pub context_text : Node → List ℕ
context_text node = replace_byte space (codes "-") (full_name node)

-- the text before the arms, given the index of the word that names a child: the words from it on,
-- the context in which zsh looks up its styles, and the choice by that word
unfoldable pub case_text : Node → List ℕ → List ℕ
case_text node index =
    case_state ++ node.name ++ set_words ++ index ++ set_context ++ context_text node
    ++ context_command ++ index ++ case_line ++ index ++ case_line_in

abbrev pub nested_begins : Node → List ℕ
nested_begins node = case_text node (index_text node)

-- the arms of a node, if it has children
abbrev pub nested_text : Node → Forest → List ℕ → List ℕ
nested_text node children arms =
    if has_nodes children then nested_begins node ++ arms ++ nested_ends else []

-- the same on its own line
abbrev pub nested_line : Node → Forest → List ℕ → List ℕ
nested_line node children arms =
    if has_nodes children then line_feed ∷ (nested_begins node ++ arms ++ nested_ends) else []

unfoldable pub arm_ends : List ℕ
arm_ends = codes "\n;;\n"

-- the word of an arm, and its block
abbrev pub arm_begins : List ℕ → List ℕ → List ℕ
arm_begins word block = codes "(" ++ word ++ codes ")\n" ++ block

-- the arm of a word, with a block, the arms nested in it, and a line feed at its end
abbrev pub arm_text : List ℕ → List ℕ → List ℕ → List ℕ
arm_text block nested word = arm_begins word block ++ nested ++ arm_ends

-- an arm for each visible name of each child, below the given node
unfoldable pub arms_text : Node → Forest → List ℕ
arms_text above none = []
arms_text above (more node below rest) =
    flat_map (arm_text (block_text above (record { node = node; children = below }))
    (nested_line node below (arms_text node below))) (visible_names node)
    ++ arms_text above rest

-- the blocks of the root and of all nodes below it
unfoldable pub root_text : Tree → List ℕ
root_text root =
    block_text root.node root
    ++ nested_text root.node root.children (arms_text root.node root.children)
