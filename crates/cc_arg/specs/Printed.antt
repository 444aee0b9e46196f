-- The printed form of an argument, as people read it.
use Rattle.std.specs.Prelude.{ℕ, List, [], ◌∷◌, ◌++◌, length, map, max, replicate, Bool, true, false, not, ◌&&◌, ◌||◌, ◌==◌, nat_lt, if◌then◌else◌, Option, Some, None, codes}
use Rattle.std.specs.Char.{encode_utf8}
use Rattle.cc_base.specs.Joined.{joined}
use Rattle.cc_arg.specs.declared.action.ArgAction.{ArgAction}
use Rattle.cc_arg.specs.declared.action.ArgAction.TheVariants.{Append, Count}
use Rattle.cc_arg.specs.declared.parts.ArgParts.{ArgParts as Arg}
use Rattle.cc_arg.specs.Arguments.{action_of, is_positional, range_of, takes_values}

-- two names or more, unchanged; a single name, or the id if there is no name, this many times
abbrev pub names_for : ℕ → List ℕ → List (List ℕ) → List (List ℕ)
names_for times id [] = replicate times id
names_for times id (name ∷ []) = replicate times name
names_for times id (name ∷ other ∷ names) = name ∷ other ∷ names

-- the names that represent the values; a single name represents each value that must be given
abbrev pub written_names : Arg → List (List ℕ)
written_names arg = names_for (max 1 (range_of arg).least) arg.id arg.value_names

-- a positional whose values can be left out
abbrev pub is_optional : Arg → Bool
is_optional arg = is_positional arg && (not arg.required || ((range_of arg).least == 0))

abbrev pub in_brackets : List ℕ → List ℕ
in_brackets text = codes "[" ++ text ++ codes "]"

-- the name of a value, in square brackets if it is optional and in angle brackets otherwise
abbrev pub placeholder : Bool → List ℕ → List ℕ
placeholder true name = in_brackets name
placeholder false name = codes "<" ++ name ++ codes ">"

-- a name that follows another
abbrev pub further : Bool → List ℕ → List ℕ
further optional name = codes " " ++ placeholder optional name

abbrev pub is_append : ArgAction → Bool
is_append Append = true
is_append _ = false

abbrev pub is_count : Option ArgAction → Bool
is_count (Some Count) = true
is_count _ = false

-- more values can follow than there are names: by the range, or because a positional keeps the
-- values of all uses
abbrev pub takes_more : Arg → Bool
takes_more arg = nat_lt (length (written_names arg)) (range_of arg).greatest
    || (is_positional arg && is_append (action_of arg))

abbrev pub dots_where : Bool → List ℕ
dots_where true = codes "..."
dots_where false = []

-- the names of the values
unfoldable pub printed_names : Arg → List ℕ
printed_names arg = joined (codes " ") (map (placeholder (is_optional arg)) (written_names arg))

-- the values
unfoldable pub printed_values : Arg → List ℕ
printed_values arg = printed_names arg ++ dots_where (takes_more arg)

-- the long, or the short if there is no long
abbrev pub printed_name : Option (List ℕ) → Option ℕ → List ℕ
printed_name (Some long) short = codes "--" ++ long
printed_name None (Some short) = codes "-" ++ encode_utf8 short
printed_name None None = []

-- the text after the name of an option or a flag
unfoldable pub printed_after_name : Arg → List ℕ
printed_after_name arg =
    if takes_values arg then codes " " ++
    (if (range_of arg).least == 0 then in_brackets (printed_values arg) else printed_values arg)
    else dots_where (is_count arg.action)

-- the printed form of an argument: only the values of a positional, or the name and the values of
-- an option or a flag
unfoldable pub printed : Arg → List ℕ
printed arg = if is_positional arg then printed_values arg else printed_name arg.long arg.short
    ++ printed_after_name arg
