-- The lines of a node's options and flags.
use Rattle.std.specs.Prelude.{List, [], ◌++◌, ℕ, Bool, true, false, if◌then◌else◌, unwrap_or, codes}
use Rattle.std.specs.List.{flat_map}
use Rattle.cc_arg.specs.declared.parts.ArgParts.{ArgParts as Arg}
use Rattle.cc_arg.specs.declared.action.ArgAction.{ArgAction}
use Rattle.cc_arg.specs.declared.action.ArgAction.TheVariants.{Set, Append, Count}
use Rattle.cc_arg.specs.declared.names.ShownName.{ShownName}
use Rattle.cc_arg.specs.declared.names.ShownName.TheVariants.{Short, Long}
use Rattle.cc_arg.specs.Arguments.{takes_values}
use Rattle.cc_arg.specs.ShownNames.{shown_names}
use Rattle.cc_command.specs.declared.node.Node.{Node}
use Rattle.cc_command.specs.ArgumentLists.{flags, options}
use Rattle.cc_generator.specs.ArgumentNames.{long_word, short_word}
use Rattle.cc_zsh.specs.Conflicts.{conflicts_text, conflicts_of}
use Rattle.cc_quote.specs.ZshQuote.{zsh_escaped_help}
use Rattle.cc_zsh.specs.Values.{values_text}

-- whether an action counts uses, or keeps the values of each use
abbrev pub repeats : ArgAction → Bool
repeats Count = true
repeats Append = true
repeats _ = false

-- whether an argument may be used again; building has set the action
abbrev pub is_repeated : Arg → Bool
is_repeated argument = repeats (unwrap_or argument.action Set)

-- a star, if the argument may be used again
abbrev pub repeated_text : Arg → List ℕ
repeated_text argument = if is_repeated argument then codes "*" else []

-- the help text, if there is one, in square brackets
unfoldable pub help_text : Arg → List ℕ
unfolding zsh_escaped_help
help_text argument = codes "[" ++ zsh_escaped_help (unwrap_or argument.help []) ++ codes "]"

-- the end of each line
unfoldable pub line_end : List ℕ
line_end = codes "' \\\n"

-- a name as a user types it
abbrev pub name_word : ShownName → List ℕ
name_word (Short short) = short_word short
name_word (Long long) = long_word long

-- how the value of an option may follow its name: after a short at once, after a long behind `=`,
-- and after either as the next word; no value follows the name of a flag
abbrev pub value_sign : Arg → ShownName → List ℕ
value_sign argument (Short _) = if takes_values argument then codes "+" else []
value_sign argument (Long _) = if takes_values argument then codes "=" else []

-- an argument under one of its names, after the arguments that conflict with it
unfoldable pub argument_line : Node → Node → Arg → ShownName → List ℕ
argument_line above node argument name =
    codes "'" ++ conflicts_text (conflicts_of above node argument) ++ repeated_text argument
    ++ name_word name ++ value_sign argument name ++ help_text argument ++ values_text argument
    ++ line_end

-- an argument under each of its shown names, shorts first
unfoldable pub argument_text : Node → Node → Arg → List ℕ
argument_text above node argument =
    flat_map (argument_line above node argument) (shown_names argument)

-- the options and the flags of a node, given the node above it
unfoldable pub options_text : Node → Node → List ℕ
options_text above node = flat_map (argument_text above node) (options node)

unfoldable pub flags_text : Node → Node → List ℕ
flags_text above node = flat_map (argument_text above node) (flags node)
