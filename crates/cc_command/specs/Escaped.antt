-- The descriptions without a quote that a PowerShell script leaves unescaped. The script escapes
-- `'` and U+2019, but not U+2018, U+201A and U+201B.
use Rattle.std.specs.Prelude.{ℕ, Bool, true, ◌&&◌, ◌==◌, List, [], ◌∷◌, if◌then◌else◌, Option, Some, None, is_none}
use Rattle.std.specs.List.{list_all}
use Rattle.cc_arg.specs.declared.parts.ArgParts.{ArgParts as Arg}
use Rattle.cc_command.specs.declared.node.Node.{Node}
use Rattle.cc_command.specs.Plain.{passes_if_some}
use Rattle.cc_command.specs.Tree.{Forest, none, more, Tree}

-- the quote whose third byte this is: U+2018, U+201A or U+201B; its first two are 226 and 128
abbrev pub quote_of_third : ℕ → Option ℕ
quote_of_third byte =
    if byte == 152 then Some 8216
    else (if byte == 154 then Some 8218 else (if byte == 155 then Some 8219 else None))

-- the quote whose last two bytes are the first two of a text
abbrev pub quote_of_second : List ℕ → Option ℕ
quote_of_second (second ∷ third ∷ _) = if second == 128 then quote_of_third third else None
quote_of_second _ = None

-- the quote that begins with this byte and continues in the rest
abbrev pub quote_at : ℕ → List ℕ → Option ℕ
quote_at byte rest = if byte == 226 then quote_of_second rest else None

-- the first quote, or the second if there is no first
abbrev pub first_of : Option ℕ → Option ℕ → Option ℕ
first_of None later = later
first_of (Some first) later = Some first

-- the first of these quotes in a text
abbrev pub unescaped_quote : List ℕ → Option ℕ
unescaped_quote [] = None
unescaped_quote (byte ∷ rest) = first_of (quote_at byte rest) (unescaped_quote rest)

-- a text contains none of these quotes
abbrev pub is_escaped_text : List ℕ → Bool
is_escaped_text text = is_none (unescaped_quote text)

-- none of these quotes is in the help text of an argument, in the texts of a node (its description
-- and the help texts of its arguments), or in the texts of all nodes
abbrev pub is_escaped_argument : Arg → Bool
is_escaped_argument argument = passes_if_some is_escaped_text argument.help

abbrev pub is_escaped_node : Node → Bool
is_escaped_node node =
    passes_if_some is_escaped_text node.about && list_all is_escaped_argument node.arguments

abbrev pub is_escaped_forest : Forest → Bool
is_escaped_forest none = true
is_escaped_forest (more node below rest) =
    is_escaped_node node && (is_escaped_forest below && is_escaped_forest rest)

abbrev pub is_escaped_tree : Tree → Bool
is_escaped_tree tree = is_escaped_node tree.node && is_escaped_forest tree.children
