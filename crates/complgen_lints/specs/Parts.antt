-- The names and descriptions of a command or an argument, each with its key.
use Rattle.std.specs.Prelude.{ℕ, List, [], ◌∷◌, ◌++◌, encode_utf8, Option, Some, None, unwrap_or}
use Rattle.cc_arg.specs.declared.parts.ArgParts.{ArgParts as Arg}
use Rattle.cc_arg.specs.declared.possible_value.PossibleValue.{PossibleValue}
use Rattle.cc_arg.specs.Arguments.{possible_values}
use Rattle.cc_command.specs.declared.node.Node.{Node}
use Rattle.complgen_lints.specs.Lists.{each_from}
use Rattle.complgen_lints.specs.declared.parts.Content.{Content}
use Rattle.complgen_lints.specs.declared.parts.Content.TheVariants as content
use Rattle.complgen_lints.specs.declared.parts.Part.{Part}
use Rattle.complgen_lints.specs.declared.place.Key.{Key}
use Rattle.complgen_lints.specs.declared.place.Key.TheVariants as key

-- a text at a key or at an item of the key's list, and the same for a short
abbrev pub text_part : Key → Option ℕ → List ℕ → Part
text_part key item text = record { key = key; item = item; content = content.Text text }

abbrev pub short_part : Key → Option ℕ → ℕ → Part
short_part key item short = record { key = key; item = item; content = content.Short short }

-- the bytes of a part
abbrev pub content_text : Content → List ℕ
content_text (content.Text text) = text
content_text (content.Short short) = encode_utf8 short

-- a text if there is one, and the texts of a list; the same for shorts
abbrev pub some_text : Key → Option ℕ → Option (List ℕ) → List Part
some_text key item None = []
some_text key item (Some text) = text_part key item text ∷ []

abbrev pub listed_text : Key → ℕ → List ℕ → List Part
listed_text key item text = text_part key (Some item) text ∷ []

abbrev pub listed_texts : Key → List (List ℕ) → List Part
listed_texts key texts = each_from (listed_text key) 0 texts

abbrev pub some_short : Key → Option ℕ → List Part
some_short key None = []
some_short key (Some short) = short_part key None short ∷ []

abbrev pub listed_short : Key → ℕ → ℕ → List Part
listed_short key item short = short_part key (Some item) short ∷ []

abbrev pub listed_shorts : Key → List ℕ → List Part
listed_shorts key shorts = each_from (listed_short key) 0 shorts

-- the name of a command and its aliases
abbrev pub name_parts : Node → List Part
name_parts node = (text_part key.Name None node.name ∷ []
    ++ listed_texts key.VisibleAliases node.visible_aliases)
    ++ listed_texts key.Aliases node.aliases

-- the long of an argument and its aliases, and the short and its aliases
abbrev pub long_parts : Arg → List Part
long_parts argument = (some_text key.Long None argument.long
    ++ listed_texts key.VisibleAliases argument.visible_aliases)
    ++ listed_texts key.Aliases argument.aliases

abbrev pub short_parts : Arg → List Part
short_parts argument = (some_short key.Short argument.short
    ++ listed_shorts key.VisibleShortAliases argument.visible_short_aliases)
    ++ listed_shorts key.ShortAliases argument.short_aliases

-- the id of an argument, and its value names
abbrev pub label_parts : Arg → List Part
label_parts argument =
    text_part key.Id None argument.id ∷ [] ++ listed_texts key.ValueNames argument.value_names

-- the possible values of an argument, hidden ones too
abbrev pub values_of : Arg → List PossibleValue
values_of argument = unwrap_or (possible_values argument) []

-- the names of possible values
abbrev pub value_name : ℕ → PossibleValue → List Part
value_name item value = text_part key.PossibleValues (Some item) value.name ∷ []

abbrev pub value_names : List PossibleValue → List Part
value_names values = each_from value_name 0 values
