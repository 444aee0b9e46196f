-- The source of an argument's values outside the tree: a command that prints them, a file that
-- lists them, or what the system knows. At most one is used.
use Rattle.std.specs.Prelude.{ℕ, List, [], ◌∷◌, Bool, true, false, ◌&&◌, ◌||◌, not, ◌==◌, Option, Some, None, is_some, bytes_eq, if◌then◌else◌}
use Rattle.std.specs.List.{list_all, list_any}
use Rattle.std.specs.Option.{option_eq}
use Rattle.cc_arg.specs.declared.parts.ArgParts.{ArgParts as Arg}
use Rattle.cc_arg.specs.declared.value_hint.ValueHint.{ValueHint}
use Rattle.cc_arg.specs.declared.value_hint.ValueHint.TheVariants.{CommandName, Username, Hostname}
use Rattle.cc_arg.specs.declared.value_source.SourceValues.{SourceValues}
use Rattle.cc_arg.specs.declared.value_source.SourceValues.TheVariants.{Listed, Paths}
use Rattle.cc_arg.specs.declared.values_protocol.ValuesProtocol.{ValuesProtocol}
use Rattle.cc_arg.specs.declared.values_protocol.ValuesProtocol.TheVariants.{Lines, Cobra}
use Rattle.cc_arg.specs.Arguments.{possible_values}

-- the bytes of `/` and `=`, of a NUL, and of a vertical tab
abbrev pub slash : ℕ
slash = 47

abbrev pub equals : ℕ
equals = 61

abbrev pub nul : ℕ
nul = 0

abbrev pub vertical_tab : ℕ
vertical_tab = 11

abbrev pub has_byte : ℕ → List ℕ → Bool
has_byte byte text = list_any (λ one. one == byte) text

-- a word that can be passed on: neither a NUL nor a vertical tab is in it
abbrev pub is_whole_word : List ℕ → Bool
is_whole_word word = not (has_byte nul word || has_byte vertical_tab word)

-- an absolute path, or a name without a slash; not a path that depends on the current directory
abbrev pub is_program : List ℕ → Bool
is_program [] = false
is_program (first ∷ rest) =
    ((first == slash) || not (has_byte slash (first ∷ rest)))
    && not (has_byte equals (first ∷ rest))

-- The words name a program and its arguments. `env` would take a program with an equals sign for a
-- variable.
abbrev pub is_runnable : List (List ℕ) → Bool
is_runnable [] = false
is_runnable (program ∷ arguments) =
    is_program program && list_all is_whole_word (program ∷ arguments)

-- the system lists the values of this hint
abbrev pub is_listed : ValueHint → Bool
is_listed CommandName = true
is_listed Username = true
is_listed Hostname = true
is_listed _ = false

-- a command that can run comes first, then a file, then a hint
abbrev pub names_source : Option (List (List ℕ)) → Option (List ℕ) → ValueHint → Bool
names_source (Some words) file hint = is_runnable words
names_source None (Some path) hint = true
names_source None None hint = is_listed hint

-- a completer, a list of candidates, or possible values, which go before a source
abbrev pub has_own_values : Arg → Bool
has_own_values arg =
    (is_some arg.completer || is_some arg.candidates) || is_some (possible_values arg)

-- the values come from a source outside the tree
abbrev pub has_source : Arg → Bool
has_source arg =
    not (has_own_values arg) && names_source arg.values_from arg.values_file arg.value_hint

-- the same texts in the same order
abbrev pub same_texts : List (List ℕ) → List (List ℕ) → Bool
same_texts [] [] = true
same_texts (one ∷ ones) (other ∷ others) = bytes_eq one other && same_texts ones others
same_texts _ _ = false

abbrev pub same_hint : ValueHint → ValueHint → Bool
same_hint CommandName CommandName = true
same_hint Username Username = true
same_hint Hostname Hostname = true
same_hint _ _ = false

-- the values come from the same command, file or hint
abbrev pub same_origin : Option (List (List ℕ)) → Option (List ℕ) → ValueHint
    → Option (List (List ℕ)) → Option (List ℕ) → ValueHint → Bool
same_origin (Some words) _ _ (Some others) _ _ = same_texts words others
same_origin None (Some path) _ None (Some other) _ = bytes_eq path other
same_origin None None hint None None other = same_hint hint other
same_origin _ _ _ _ _ _ = false

-- both flags are set, or neither is
abbrev pub same_flag : Bool → Bool → Bool
same_flag true other = other
same_flag false other = not other

abbrev pub same_protocol : ValuesProtocol → ValuesProtocol → Bool
same_protocol Lines Lines = true
same_protocol Cobra Cobra = true
same_protocol _ _ = false

-- the program gets words of the command line for both or for neither, and the lines have one form
abbrev pub same_lines : Arg → Arg → Bool
same_lines one other =
    option_eq bytes_eq one.values_split other.values_split
    && (same_flag one.values_words other.values_words
    && same_protocol one.values_protocol other.values_protocol)

-- two arguments have the same source, and their lines are read in the same way
abbrev pub same_source : Arg → Arg → Bool
same_source one other =
    (has_source one && has_source other)
    && (same_origin one.values_from one.values_file one.value_hint
    other.values_from other.values_file other.value_hint
    && same_lines one other)

-- ---- the values that were read from a source

-- the argument with these values: a list of candidates, or the paths of a hint
abbrev pub with_values : SourceValues → Arg → Arg
with_values (Listed list) arg = record arg { candidates = Some list }
with_values (Paths hint) arg = record arg { value_hint = hint }

-- the argument with these values, if its values come from where those of `asked` do
abbrev pub listed : Arg → SourceValues → Arg → Arg
listed asked values arg = if same_source arg asked then with_values values arg else arg
