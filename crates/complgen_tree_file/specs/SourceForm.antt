-- The form of the keys for the source of an argument's values.
use Rattle.std.specs.Prelude.{ℕ, List, [], ◌∷◌, Bool, true, false, ◌&&◌, not, Option, Some, None, is_some}
use Rattle.cc_arg.specs.ValueSources.{has_byte, is_runnable, nul}
use Rattle.cc_arg.specs.declared.parts.ArgParts.{ArgParts as Arg}

-- a value passes a test, if there is one
abbrev pub passes_if_there : {A : Type 0} → (A → Bool) → Option A → Bool
passes_if_there passes None = true
passes_if_there passes (Some a) = passes a

-- a path of a file: it is not empty, and has no NUL
abbrev pub is_path : List ℕ → Bool
is_path [] = false
is_path (byte ∷ bytes) = not (has_byte nul (byte ∷ bytes))

-- a text that separates a value from its description is not empty
abbrev pub is_separator : List ℕ → Bool
is_separator [] = false
is_separator (byte ∷ bytes) = true

-- at most one of three is there
abbrev pub at_most_one : Bool → Bool → Bool → Bool
at_most_one true true last = false
at_most_one true false last = not last
at_most_one false true last = not last
at_most_one false false last = true

-- the values come from at most one of a command, a file and the list of possible values
abbrev pub has_one_source : Arg → Bool
has_one_source argument = at_most_one
    (is_some argument.values_from) (is_some argument.values_file) (is_some argument.possible_values)

-- The argument names at most one source of its values, and `before` holds. A command can be run, a
-- path is not empty and has no NUL, and a separator is not empty.
abbrev pub is_well_sourced : Arg → Bool → Bool
is_well_sourced argument before =
    (((before && passes_if_there is_runnable argument.values_from)
    && passes_if_there is_path argument.values_file)
    && passes_if_there is_separator argument.values_split)
    && has_one_source argument
