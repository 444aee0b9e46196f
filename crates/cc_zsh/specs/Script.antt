-- The text of a zsh script.
use Rattle.std.specs.Prelude.{⊤, ℕ, List, ◌++◌, codes}
use Rattle.std.specs.List.{flat_map}
use Rattle.cc_command.specs.Names.{full_name}
use Rattle.cc_command.specs.Tree.{Tree}
use Rattle.cc_zsh.specs.Functions.{unless_defined, function_begins, commands_begin, describe_begins, describe_ends, entries_end, function_text, tree_functions}
use Rattle.cc_zsh.specs.Nested.{block_begins, block_ends, external_text, command_begins, state_begins, state_ends, case_state, set_words, set_context, context_command, case_line, case_line_in, nested_ends, arm_ends, root_text}
use Rattle.cc_zsh.specs.Options.{line_end}

unfoldable pub compdef_begins : List ℕ
compdef_begins = codes "#compdef "

unfoldable pub autoloads : List ℕ
autoloads = codes "\n\nautoload -U is-at-least\n\n_"

unfoldable pub body_begins : List ℕ
body_begins =
    codes "() {\n"
    ++ codes "    typeset -A opt_args\n"
    ++ codes "    typeset -a _arguments_options\n"
    ++ codes "    local ret=1\n"
    ++ codes "\n"
    ++ codes "    if is-at-least 5.2; then\n"
    ++ codes "        _arguments_options=(-s -S -C)\n"
    ++ codes "    else\n"
    ++ codes "        _arguments_options=(-s -C)\n"
    ++ codes "    fi\n"
    ++ codes "\n"
    ++ codes "    local context curcontext=\"$curcontext\" state line\n"
    ++ codes "    "

-- the beginning of a script
unfoldable pub begin_text : List ℕ → List ℕ
begin_text bin_name = compdef_begins ++ bin_name ++ autoloads ++ bin_name ++ body_begins

-- the text between the blocks and the functions
unfoldable pub body_ends : List ℕ
body_ends = codes "\n}\n\n"

unfoldable pub if_called : List ℕ
if_called = codes "\nif [ \"$funcstack[1]\" = \"_"

unfoldable pub then_call : List ℕ
then_call = codes "\" ]; then\n    _"

unfoldable pub else_define : List ℕ
else_define = codes " \"$@\"\nelse\n    compdef _"

unfoldable pub if_ends : List ℕ
if_ends = codes "\nfi\n"

-- the end of a script: it calls the function if zsh is loading the script to call it, and otherwise
-- registers the function
unfoldable pub end_text : List ℕ → List ℕ
end_text bin_name =
    if_called ++ bin_name ++ then_call ++ bin_name ++ else_define ++ bin_name ++ codes " "
    ++ bin_name ++ if_ends

-- all functions of a tree
unfoldable pub functions_text : Tree → List ℕ
functions_text root = flat_map function_text (tree_functions root)

unfoldable pub script_text : List ℕ → Tree → List ℕ
script_text bin_name root =
    begin_text bin_name ++ root_text root ++ body_ends ++ functions_text root
    ++ end_text bin_name

-- the script of a tree
abbrev pub zsh_script : Tree → List ℕ
zsh_script root = script_text (full_name root.node) root

-- unfolds each fixed text of a script
unfoldable pub fixed_texts : ⊤
unfolding compdef_begins autoloads body_begins body_ends if_called then_call else_define if_ends line_end block_begins block_ends external_text command_begins state_begins state_ends case_state set_words set_context context_command case_line case_line_in nested_ends arm_ends unless_defined function_begins commands_begin describe_begins describe_ends entries_end
fixed_texts = tt
