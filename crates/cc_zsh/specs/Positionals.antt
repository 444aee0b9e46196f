-- The lines of a node's positionals.
use Rattle.std.specs.Prelude.{ℕ, List, [], ◌∷◌, ◌++◌, ◌==◌, ◌&&◌, ◌||◌, nat_lt, Bool, false, not, if◌then◌else◌, Option, Some, None, is_some, codes}
use Rattle.std.specs.List.{flat_map}
use Rattle.cc_arg.specs.declared.parts.ArgParts.{ArgParts as Arg}
use Rattle.cc_command.specs.ArgumentLists.{positionals}
use Rattle.cc_command.specs.Tree.{Tree, has_nodes}
use Rattle.cc_base.specs.Bytes.{close_bracket, colon, open_bracket, single_quote}
use Rattle.cc_quote.specs.Escapes.{escaped_by}
use Rattle.cc_quote.specs.ZshQuote.{zsh_escaped_value, zsh_replacement}
use Rattle.cc_zsh.specs.Options.{line_end}
use Rattle.cc_zsh.specs.Values.{range, value_text}

-- whether an argument takes more than one value
abbrev pub takes_several : Arg → Bool
takes_several argument = nat_lt 1 (range argument).greatest

-- whether a positional takes all words that follow, or all up to its terminator; if the node has
-- children, it does not
abbrev pub takes_rest : Bool → Arg → Bool
takes_rest has_children argument = takes_several argument && not has_children

-- the text for the remaining words, or for those up to a terminator
abbrev pub rest_text : Option (List ℕ) → List ℕ
rest_text None = codes "*:"
rest_text (Some terminator) = codes "*" ++ zsh_escaped_value terminator ++ codes ":"

-- how many words a positional takes: the remaining ones, or one, which a colon makes optional
unfoldable pub count_text : Bool → Arg → List ℕ
count_text has_children argument =
    if takes_rest has_children argument then rest_text argument.value_terminator
    else (if argument.required then [] else codes ":")

abbrev pub is_bracket_or_colon : ℕ → Bool
is_bracket_or_colon byte = byte == open_bracket || byte == close_bracket || byte == colon

-- whether a byte is escaped: `[`, `]` and `:` follow a backslash, and `'` becomes `'\''`
abbrev pub is_positional_escaped : ℕ → Bool
is_positional_escaped byte = is_bracket_or_colon byte || byte == single_quote

unfoldable pub positional_escaped : List ℕ → List ℕ
positional_escaped text = escaped_by is_positional_escaped zsh_replacement text

-- the help text of a positional
abbrev pub positional_help : Option (List ℕ) → List ℕ
positional_help None = []
positional_help (Some help) = codes " -- " ++ positional_escaped help

-- a positional of a node; the flag says whether the node has children
unfoldable pub positional_text : Bool → Arg → List ℕ
positional_text has_children argument =
    codes "'" ++ count_text has_children argument ++ codes ":" ++ argument.id
    ++ positional_help argument.help ++ codes ":" ++ value_text argument ++ line_end

-- whether a positional takes all words that follow, to the end
abbrev pub takes_all : Bool → Arg → Bool
takes_all has_children argument =
    takes_rest has_children argument && not (is_some argument.value_terminator)

-- whether a positional is left out; `taken` says whether a positional before it takes all words
abbrev pub is_left_out : Bool → Arg → Bool
is_left_out taken argument = taken && (argument.last || takes_several argument)

-- the positionals that are shown; `taken` says whether a positional before them takes all words
abbrev pub shown_positionals : Bool → Bool → List Arg → List Arg
shown_positionals has_children taken [] = []
shown_positionals has_children taken (argument ∷ arguments) =
    (if is_left_out taken argument then [] else argument ∷ [])
    ++ shown_positionals has_children (taken || takes_all has_children argument) arguments

-- the positionals of a node
unfoldable pub positionals_text : Tree → List ℕ
positionals_text tree =
    flat_map (positional_text (has_nodes tree.children))
    (shown_positionals (has_nodes tree.children) false (positionals tree.node))
