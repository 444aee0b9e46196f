-- The arguments that conflict with an argument, as the option's word names them.
use Rattle.std.specs.Prelude.{ℕ, List, [], ◌∷◌, ◌++◌, if◌then◌else◌, Bool, true, false, Option, Some, None, codes}
use Rattle.std.specs.List.{flat_map}
use Rattle.std.specs.Option.{option_to_list}
use Rattle.cc_base.specs.Joined.{joined}
use Rattle.cc_arg.specs.declared.parts.ArgParts.{ArgParts as Arg}
use Rattle.cc_command.specs.declared.node.Node.{Node}
use Rattle.cc_command.specs.ArgumentLists.{conflicting, first_with_id}
use Rattle.cc_generator.specs.ArgumentNames.{long_word, short_word}

-- for each id the first argument with it; an id that no argument has is passed over
abbrev pub with_ids : List Arg → List (List ℕ) → List Arg
with_ids arguments ids = flat_map (λ id. option_to_list (first_with_id arguments id)) ids

-- the arguments among which conflicts are looked up: for a global argument those of the node above,
-- which for the root is the root itself
abbrev pub conflict_scope : Node → Node → Arg → List Arg
conflict_scope above node argument = if argument.global then above.arguments else node.arguments

-- the arguments that conflict with an argument of a node
abbrev pub conflicts_of : Node → Node → Arg → List Arg
conflicts_of above node argument = conflicting (conflict_scope above node argument) argument

abbrev pub short_words : Option ℕ → List (List ℕ)
short_words None = []
short_words (Some short) = short_word short ∷ []

abbrev pub long_words : Option (List ℕ) → List (List ℕ)
long_words None = []
long_words (Some long) = long_word long ∷ []

-- an argument's short and its long, if it has them
abbrev pub own_words : Arg → List (List ℕ)
own_words argument = short_words argument.short ++ long_words argument.long

-- the shorts and longs of several arguments
abbrev pub conflict_words : List Arg → List (List ℕ)
conflict_words arguments = flat_map own_words arguments

-- whether there is an argument
abbrev pub has_arguments : List Arg → Bool
has_arguments [] = false
has_arguments (_ ∷ _) = true

-- the names of the conflicting arguments in brackets, if there are such arguments
unfoldable pub conflicts_text : List Arg → List ℕ
conflicts_text arguments =
    if has_arguments arguments
    then codes "(" ++ joined (codes " ") (conflict_words arguments) ++ codes ")" else []
