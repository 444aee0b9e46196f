-- The form of an argument in a tree file: what each of its keys sets.
use Rattle.std.specs.Prelude.{ℕ, List, [], ◌∷◌, ◌++◌, Bool, codes}
use Rattle.serde_json.specs.Data.{Data}
use Rattle.serde_json.specs.Find.{as_bool, as_str}
use Rattle.cc_arg.specs.Arguments.{new_arg}
use Rattle.cc_arg.specs.declared.parts.ArgParts.{ArgParts as Arg}
use Rattle.complgen_tree_file.specs.PossibleValueForm.{possible_value_of}
use Rattle.complgen_tree_file.specs.SourceForm.{is_well_sourced}
use Rattle.complgen_tree_file.specs.TreeForm.{◌>>=◌, Setting, action_of, all_fit, character_of, given}
use Rattle.complgen_tree_file.specs.TreeForm.{hint_of, is_object_of, keys_of, list_of, number_of}
use Rattle.complgen_tree_file.specs.TreeForm.{protocol_of, range_of, set_all, setting, text_at}

-- the names, the help and its heading
abbrev pub names : List (Setting Arg)
names =
    setting (codes "short") (given character_of)
    (λ arg. arg.short) (λ arg it. record arg { short = it })
    ∷ setting (codes "long") (given as_str) (λ arg. arg.long) (λ arg it. record arg { long = it })
    ∷ setting (codes "help") (given as_str) (λ arg. arg.help) (λ arg it. record arg { help = it })
    ∷ setting (codes "help_heading") (given as_str)
    (λ arg. arg.help_heading) (λ arg it. record arg { help_heading = it }) ∷ []

-- the values
abbrev pub values : List (Setting Arg)
values =
    setting (codes "action") (given (λ d. as_str d >>= action_of))
    (λ arg. arg.action) (λ arg it. record arg { action = it })
    ∷ setting (codes "num_args") (given range_of)
    (λ arg. arg.num_args) (λ arg it. record arg { num_args = it })
    ∷ setting (codes "value_names") (list_of as_str)
    (λ arg. arg.value_names) (λ arg it. record arg { value_names = it })
    ∷ setting (codes "value_delimiter") (given character_of)
    (λ arg. arg.value_delimiter) (λ arg it. record arg { value_delimiter = it })
    ∷ setting (codes "value_hint") (λ d. as_str d >>= hint_of)
    (λ arg. arg.value_hint) (λ arg it. record arg { value_hint = it })
    ∷ setting (codes "default_value") (given as_str)
    (λ arg. arg.default_value) (λ arg it. record arg { default_value = it }) ∷ []

-- where the values come from: a list of possible values, a command that prints them, or a file;
-- what separates a value from its description; whether the command gets the words that were typed; and
-- how its lines are read
abbrev pub sources : List (Setting Arg)
sources =
    setting (codes "possible_values") (given (list_of possible_value_of))
    (λ arg. arg.possible_values) (λ arg it. record arg { possible_values = it })
    ∷ setting (codes "values_from") (given (list_of as_str))
    (λ arg. arg.values_from) (λ arg it. record arg { values_from = it })
    ∷ setting (codes "values_file") (given as_str)
    (λ arg. arg.values_file) (λ arg it. record arg { values_file = it })
    ∷ setting (codes "values_split") (given as_str)
    (λ arg. arg.values_split) (λ arg it. record arg { values_split = it })
    ∷ setting (codes "values_words") as_bool
    (λ arg. arg.values_words) (λ arg it. record arg { values_words = it })
    ∷ setting (codes "values_protocol") (λ d. as_str d >>= protocol_of)
    (λ arg. arg.values_protocol) (λ arg it. record arg { values_protocol = it }) ∷ []

-- the index, the display order, the word that ends the values, and the arguments that exclude it
abbrev pub surroundings : List (Setting Arg)
surroundings =
    setting (codes "index") (given number_of)
    (λ arg. arg.index) (λ arg it. record arg { index = it })
    ∷ setting (codes "display_order") (given number_of)
    (λ arg. arg.display_order) (λ arg it. record arg { display_order = it })
    ∷ setting (codes "value_terminator") (given as_str)
    (λ arg. arg.value_terminator) (λ arg it. record arg { value_terminator = it })
    ∷ setting (codes "conflicts_with") (list_of as_str)
    (λ arg. arg.conflicts) (λ arg it. record arg { conflicts = it }) ∷ []

-- whether it has to be given, only after `--`, also below; whether help texts leave it out;
-- whether its values may begin with `-`
abbrev pub flags : List (Setting Arg)
flags =
    setting (codes "required") as_bool
    (λ arg. arg.required) (λ arg it. record arg { required = it })
    ∷ setting (codes "last") as_bool (λ arg. arg.last) (λ arg it. record arg { last = it })
    ∷ setting (codes "global") as_bool (λ arg. arg.global) (λ arg it. record arg { global = it })
    ∷ setting (codes "hide") as_bool (λ arg. arg.hide) (λ arg it. record arg { hide = it })
    ∷ setting (codes "allow_hyphen_values") as_bool
    (λ arg. arg.allow_hyphen_values) (λ arg it. record arg { allow_hyphen_values = it }) ∷ []

-- aliases of the short and of the long, hidden and shown
abbrev pub aliases : List (Setting Arg)
aliases =
    setting (codes "short_aliases") (list_of character_of)
    (λ arg. arg.short_aliases) (λ arg it. record arg { short_aliases = it })
    ∷ setting (codes "aliases") (list_of as_str)
    (λ arg. arg.aliases) (λ arg it. record arg { aliases = it })
    ∷ setting (codes "visible_short_aliases") (list_of character_of)
    (λ arg. arg.visible_short_aliases) (λ arg it. record arg { visible_short_aliases = it })
    ∷ setting (codes "visible_aliases") (list_of as_str)
    (λ arg. arg.visible_aliases) (λ arg it. record arg { visible_aliases = it }) ∷ []

-- the keys that an argument may have
unfoldable pub argument_keys : List (List ℕ)
argument_keys = codes "id" ∷ ((((keys_of names ++ keys_of values) ++ keys_of sources)
    ++ keys_of surroundings) ++ keys_of flags) ++ keys_of aliases

-- whether the values at the keys for the source fit, the source is of good form in an argument with
-- what they set, and `before` holds
abbrev pub sources_fit : Data → Arg → Bool → Bool
sources_fit d argument before =
    is_well_sourced (set_all sources d argument) (all_fit sources d before)

-- an argument with what the keys set, other than the id
abbrev pub with_rest : Data → Arg → Arg
with_rest d argument = set_all aliases d (set_all flags d (set_all surroundings d
    (set_all values d (set_all names d (set_all sources d argument)))))

-- whether the values at these keys fit in an argument, and `before` holds
abbrev pub rest_fits : Data → Arg → Bool → Bool
rest_fits d argument before = all_fit aliases d (all_fit flags d (all_fit surroundings d
    (all_fit values d (all_fit names d (sources_fit d argument before)))))

-- a new argument with the id
abbrev pub with_id : Data → Arg
with_id d = new_arg (text_at (codes "id") d)

-- the argument that an object describes, if it fits
unfoldable pub argument_in : Data → Arg
argument_in d = with_rest d (with_id d)

-- whether a value describes an argument, and `before` holds
unfoldable pub argument_fits : Data → Bool → Bool
argument_fits d before = rest_fits d (with_id d) (is_object_of argument_keys (codes "id") d before)
