-- Examples of the definitions.
use Rattle.std.proofs.Common.{◌≡◌, ℕ, List, [], ◌∷◌, ◌++◌, Bool, true, false, Some, None, codes, refl}
use Rattle.std.specs.Char.{encode_utf8}
use Rattle.std.specs.Fmt.{digits}
use Rattle.cc_arg.specs.declared.parts.ArgParts.{ArgParts as Arg}
use Rattle.cc_arg.specs.declared.action.ArgAction.TheVariants.{Count, SetTrue}
use Rattle.cc_arg.specs.declared.possible_value.PossibleValue.{PossibleValue}
use Rattle.cc_arg.specs.declared.value_hint.ValueHint.TheVariants.{FilePath}
use Rattle.cc_arg.specs.Arguments.{new_arg}
use Rattle.cc_base.specs.Sorting.{insert, in_order}
use Rattle.cc_command.specs.declared.node.Node.{Node}
use Rattle.cc_command.specs.Tree.{Forest, none, more, Tree}
use Rattle.cc_command.specs.Made.{new_node, new_tree, with_argument, with_child}
use Rattle.cc_command.specs.Generated.{help_argument}
use Rattle.cc_command.specs.Built.{built_tree, built_under}
use Rattle.cc_command.specs.Texts.{help_name, help_help, help_about}
use Rattle.cc_quote.specs.ZshQuote.{zsh_escaped_help, zsh_escaped_value}
use Rattle.cc_zsh.specs.Conflicts.{conflicts_text}
use Rattle.cc_zsh.specs.Functions.{entries_end, entries_text, entry_text, unless_defined, function_begins, commands_begin, describe_begins, describe_ends, function_text, sorted_functions}
use Rattle.cc_zsh.specs.Nested.{arm_ends, arms_text, command_begins, state_begins, state_ends, below_text, block_begins, block_ends, block_text, children_text, case_state, set_words, set_context, context_command, case_line, case_line_in, nested_ends, case_text, root_text}
use Rattle.cc_zsh.specs.Options.{flags_text, help_text, line_end, argument_line, argument_text, options_text}
use Rattle.cc_zsh.specs.Positionals.{count_text, positional_escaped, positional_text, positionals_text}
use Rattle.cc_zsh.specs.Values.{hint_text, item_help, item_text, list_text, one_value, value_text, values_text}
use Rattle.cc_zsh.specs.Script.{compdef_begins, autoloads, body_begins, begin_text, if_called, then_call, else_define, if_ends, end_text, functions_text, body_ends, script_text, zsh_script}

-- ---- single lines

abbrev flag : List ℕ → Arg
flag name = record (new_arg name) { long = Some name; action = Some SetTrue }

-- characters that zsh takes as syntax follow a backslash
odd : List ℕ
odd = codes "\\ [foo]() `bar https://$PATH"

escaped : (zsh_escaped_value odd ≡ codes "\\\\\\ \\[foo\\]\\(\\)\\ \\`bar\\ https\\://\\$PATH")
    × (zsh_escaped_help odd ≡ codes "\\\\ \\[foo\\]() \\`bar https\\://\\$PATH")
unfolding odd zsh_escaped_help zsh_escaped_value
escaped = (refl, refl)

-- a flag that counts, and that conflicts with one without a long
abbrev counted : Node
counted =
    let verbose : Arg = record (new_arg (codes "verbose")) {
      short = Some 118;
      long = Some (codes "verbose");
      action = Some Count;
      conflicts = codes "quiet" ∷ [];
    } in
    let quiet : Arg = record (new_arg (codes "quiet")) {
      short = Some 113;
      action = Some SetTrue;
    } in
    with_argument (with_argument (new_node (codes "app")) verbose) quiet

-- a conflicting positional has no name, but the brackets are there
abbrev unnamed : Node
unnamed =
    with_argument (with_argument (new_node (codes "app"))
    (record (flag (codes "yes")) { conflicts = codes "file" ∷ codes "none" ∷ [] }))
    (new_arg (codes "file"))

-- the conflicts of a global argument are looked up in the node above
abbrev json : Arg
json = record (flag (codes "json")) { global = true; conflicts = codes "yaml" ∷ [] }

abbrev app_node : Node
app_node = with_argument (with_argument (new_node (codes "app")) json) (flag (codes "yaml"))

abbrev with_global : Tree
with_global =
    built_under (Some (codes "app"))
    (with_child (record (new_tree []) { node = app_node }) (new_tree (codes "run")))

-- the flags of each node of a forest, given the node above it
abbrev flags_below : Node → Forest → List (List ℕ)
flags_below above none = []
flags_below above (more node below rest) = flags_text above node ∷ flags_below above rest

-- a value that may be left out, a positional that is required, and one that takes the remaining
-- words
abbrev lines : Tree
lines =
    let n : Arg = record (new_arg (codes "n")) {
      long = Some (codes "n");
      value_names = codes "N" ∷ [];
      num_args = Some (record { least = 0; greatest = 1 });
    } in
    let first : Arg = record (new_arg (codes "in")) { value_hint = FilePath; required = true } in
    let others : Arg = record (new_arg (codes "rest")) {
      help = Some (codes "a:b");
      num_args = Some (record { least = 0; greatest = 18446744073709551615 });
    } in
    let root : Node = record (new_node (codes "app")) { disable_help_flag = true } in
    built_tree (record (new_tree []) {
      node = with_argument (with_argument (with_argument root n) first) others;
    })

-- possible values
abbrev value : List ℕ → Bool → PossibleValue
value name hide = record { name = name; help = None; hide = hide }

abbrev colour : Arg
colour = record (new_arg (codes "color")) {
  short = Some 99;
  long = Some (codes "color");
  help = Some (codes "Colour");
  value_names = codes "WHEN" ∷ [];
  possible_values = Some (value (codes "auto") false ∷ value (codes "never") true ∷ []);
}

single_lines :
    (flags_text counted counted
    ≡ codes "'(-q)*-v[]' \\\n'(-q)*--verbose[]' \\\n'-q[]' \\\n")
    × (flags_text unnamed unnamed ≡ codes "'()--yes[]' \\\n")
    × (flags_below with_global.node with_global.children
    ≡ codes "'(--yaml)--json[]' \\\n'-h[Print help]' \\\n'--help[Print help]' \\\n" ∷ [] ∷ [])
    × (block_text lines.node lines
    ≡ codes "_arguments \"${_arguments_options[@]}\" : \\\n"
    ++ codes "'--n=[]::N:_default' \\\n"
    ++ codes "':in:_files' \\\n"
    ++ codes "'*::rest -- a\\:b:_default' \\\n"
    ++ codes "&& ret=0")
    × (argument_text app_node app_node colour
    ≡ codes "'-c+[Colour]:WHEN:(auto)' \\\n'--color=[Colour]:WHEN:(auto)' \\\n")
    × (list_text (record (value (codes "a b") false) { help = Some (codes "it's") } ∷ value (codes "c") false ∷ [])
    ≡ codes "((a\\ b\\:\"it'\\''s\"\nc\\:\"\"))")
unfolding flags_text argument_text argument_line conflicts_text help_text line_end zsh_escaped_help encode_utf8 values_text help_argument help_name help_help zsh_escaped_value block_text block_begins block_ends below_text options_text one_value value_text hint_text positionals_text positional_text count_text positional_escaped list_text item_text item_help
single_lines = (refl, refl, refl, refl, refl, refl)

-- ---- a whole script

abbrev app : Tree
app =
    built_under (Some (codes "app"))
    (with_child (new_tree (codes "app")) (new_tree (codes "run")))

whole : zsh_script app ≡
    codes "#compdef app\n"
    ++ codes "\n"
    ++ codes "autoload -U is-at-least\n"
    ++ codes "\n"
    ++ codes "_app() {\n"
    ++ codes "    typeset -A opt_args\n"
    ++ codes "    typeset -a _arguments_options\n"
    ++ codes "    local ret=1\n"
    ++ codes "\n"
    ++ codes "    if is-at-least 5.2; then\n"
    ++ codes "        _arguments_options=(-s -S -C)\n"
    ++ codes "    else\n"
    ++ codes "        _arguments_options=(-s -C)\n"
    ++ codes "    fi\n"
    ++ codes "\n"
    ++ codes "    local context curcontext=\"$curcontext\" state line\n"
    ++ codes "    _arguments \"${_arguments_options[@]}\" : \\\n"
    ++ codes "'-h[Print help]' \\\n"
    ++ codes "'--help[Print help]' \\\n"
    ++ codes "\":: :_app_commands\" \\\n"
    ++ codes "\"*::: :->app\" \\\n"
    ++ codes "&& ret=0\n"
    ++ codes "    case $state in\n"
    ++ codes "    (app)\n"
    ++ codes "        words=($line[1] \"${words[@]}\")\n"
    ++ codes "        (( CURRENT += 1 ))\n"
    ++ codes "        curcontext=\"${curcontext%:*:*}:app-command-$line[1]:\"\n"
    ++ codes "        case $line[1] in\n"
    ++ codes "            (run)\n"
    ++ codes "_arguments \"${_arguments_options[@]}\" : \\\n"
    ++ codes "'-h[Print help]' \\\n"
    ++ codes "'--help[Print help]' \\\n"
    ++ codes "&& ret=0\n"
    ++ codes ";;\n"
    ++ codes "(help)\n"
    ++ codes "_arguments \"${_arguments_options[@]}\" : \\\n"
    ++ codes "\":: :_app__subcmd__help_commands\" \\\n"
    ++ codes "\"*::: :->help\" \\\n"
    ++ codes "&& ret=0\n"
    ++ codes "\n"
    ++ codes "    case $state in\n"
    ++ codes "    (help)\n"
    ++ codes "        words=($line[1] \"${words[@]}\")\n"
    ++ codes "        (( CURRENT += 1 ))\n"
    ++ codes "        curcontext=\"${curcontext%:*:*}:app-help-command-$line[1]:\"\n"
    ++ codes "        case $line[1] in\n"
    ++ codes "            (run)\n"
    ++ codes "_arguments \"${_arguments_options[@]}\" : \\\n"
    ++ codes "&& ret=0\n"
    ++ codes ";;\n"
    ++ codes "(help)\n"
    ++ codes "_arguments \"${_arguments_options[@]}\" : \\\n"
    ++ codes "&& ret=0\n"
    ++ codes ";;\n"
    ++ codes "        esac\n"
    ++ codes "    ;;\n"
    ++ codes "esac\n"
    ++ codes ";;\n"
    ++ codes "        esac\n"
    ++ codes "    ;;\n"
    ++ codes "esac\n"
    ++ codes "}\n"
    ++ codes "\n"
    ++ codes "(( $+functions[_app_commands] )) ||\n"
    ++ codes "_app_commands() {\n"
    ++ codes "    local commands; commands=(\n"
    ++ codes "'run:' \\\n"
    ++ codes "'help:Print this message or the help of the given subcommand(s)' \\\n"
    ++ codes "    )\n"
    ++ codes "    _describe -t commands 'app commands' commands \"$@\"\n"
    ++ codes "}\n"
    ++ codes "(( $+functions[_app__subcmd__help_commands] )) ||\n"
    ++ codes "_app__subcmd__help_commands() {\n"
    ++ codes "    local commands; commands=(\n"
    ++ codes "'run:' \\\n"
    ++ codes "'help:Print this message or the help of the given subcommand(s)' \\\n"
    ++ codes "    )\n"
    ++ codes "    _describe -t commands 'app help commands' commands \"$@\"\n"
    ++ codes "}\n"
    ++ codes "(( $+functions[_app__subcmd__help__subcmd__help_commands] )) ||\n"
    ++ codes "_app__subcmd__help__subcmd__help_commands() {\n"
    ++ codes "    local commands; commands=()\n"
    ++ codes "    _describe -t commands 'app help help commands' commands \"$@\"\n"
    ++ codes "}\n"
    ++ codes "(( $+functions[_app__subcmd__help__subcmd__run_commands] )) ||\n"
    ++ codes "_app__subcmd__help__subcmd__run_commands() {\n"
    ++ codes "    local commands; commands=()\n"
    ++ codes "    _describe -t commands 'app help run commands' commands \"$@\"\n"
    ++ codes "}\n"
    ++ codes "(( $+functions[_app__subcmd__run_commands] )) ||\n"
    ++ codes "_app__subcmd__run_commands() {\n"
    ++ codes "    local commands; commands=()\n"
    ++ codes "    _describe -t commands 'app run commands' commands \"$@\"\n"
    ++ codes "}\n"
    ++ codes "\n"
    ++ codes "if [ \"$funcstack[1]\" = \"_app\" ]; then\n"
    ++ codes "    _app \"$@\"\n"
    ++ codes "else\n"
    ++ codes "    compdef _app app\n"
    ++ codes "fi\n"
unfolding zsh_escaped_help encode_utf8 help_argument help_name help_help help_about insert in_order digits script_text begin_text compdef_begins autoloads body_begins body_ends root_text block_text block_begins block_ends options_text flags_text argument_text argument_line conflicts_text help_text line_end positionals_text below_text children_text command_begins state_begins state_ends case_text case_state set_words set_context context_command case_line case_line_in nested_ends arms_text arm_ends functions_text sorted_functions function_text unless_defined function_begins commands_begin describe_begins describe_ends entry_text entries_text entries_end end_text if_called then_call else_define if_ends values_text
whole = refl
