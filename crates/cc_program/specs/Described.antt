-- Arguments and commands with their texts.
use Rattle.std.specs.Prelude.{◌≡◌, ◌-◌, ◌^◌, ℕ, List, [], ◌∷◌, ◌++◌, map, Option, None, Some, false, true, Result, Ok, Err, MatchResult}
use Rattle.std.specs.Borrow.{Bor}
use Rattle.std.specs.Option.{option_copied, option_map}
use Rattle.cc_arg.specs.declared.parts.ArgParts.{ArgParts as Arg}
use Rattle.cc_arg.specs.declared.action.ArgAction.TheVariants.{SetTrue}
use Rattle.cc_arg.specs.declared.possible_value.PossibleValue.{PossibleValue}
use Rattle.cc_arg.specs.declared.range.ValueRange.{ValueRange}
use Rattle.cc_arg.specs.declared.value_hint.ValueHint.TheVariants.{Unknown}
use Rattle.cc_arg.specs.Arguments.{new_arg}
use Rattle.cc_arg.specs.PossibleValues.{new_possible_value}
use Rattle.cc_base.specs.declared.error.Error.{Error}
use Rattle.cc_base.specs.declared.error.Error.TheVariants.{Memory}
use Rattle.cc_command.specs.Made.{new_tree, with_argument, with_root}
use Rattle.cc_command.specs.Tree.{Tree}
use Rattle.cc_program.specs.declared.description.ArgDescription.{ArgDescription}

-- ---- ARGUMENTS

-- a long that is its id, a help, and no value
abbrev pub flag_of : List ℕ → List ℕ → Arg
flag_of name help =
    record (new_arg name) { long = Some name; help = Some help; action = Some SetTrue }

-- the name of its value, and a help
abbrev pub positional_of : List ℕ → List ℕ → List ℕ → Arg
positional_of id value_name help =
    record (new_arg id) { help = Some help; value_names = value_name ∷ [] }

-- the same with a long that is its id
abbrev pub option_of : List ℕ → List ℕ → List ℕ → Arg
option_of name value_name help =
    record (positional_of name value_name help) { long = Some name }

-- one value, and no bound
abbrev pub one_or_more : ValueRange
one_or_more = record { least = 1; greatest = 2 ^ 64 - 1 }

abbrev pub value_of : List ℕ → List ℕ → PossibleValue
value_of name help = record (new_possible_value name) { help = Some help }

-- one value for each name and help
abbrev pub described_values : List (Bor (List ℕ) × Bor (List ℕ)) → List PossibleValue
described_values pairs = map (λ pair. value_of pair.0.now pair.1.now) pairs

-- ---- WHAT A DESCRIPTION MAKES

-- an id and a help, and nothing else said
abbrev pub new_described : Bor (List ℕ) → Bor (List ℕ) → ArgDescription
new_described id help = record {
  id = id;
  help = help;
  long = None;
  value_name = None;
  values = None;
  short = None;
  action = None;
  num_args = None;
  value_hint = Unknown;
  completer = None;
  required = false;
  global = false;
}

-- a name, if there is one
abbrev pub names_of : Option (Bor (List ℕ)) → List (List ℕ)
names_of None = []
names_of (Some name) = name.now ∷ []

-- without its long, the names of its values and the values
abbrev pub said_parts : ArgDescription → Arg
said_parts described = record (new_arg described.id.now) {
  help = Some described.help.now;
  short = described.short;
  action = described.action;
  num_args = described.num_args;
  value_hint = described.value_hint;
  completer = described.completer;
  required = described.required;
  global = described.global;
}

-- the argument that is described
abbrev pub arg_of : ArgDescription → Arg
arg_of described = record (said_parts described) {
  long = option_copied described.long;
  value_names = names_of described.value_name;
  possible_values = option_map (λ pairs. described_values pairs.now) described.values;
}

-- ---- COMMANDS

abbrev pub named_command : List ℕ → List ℕ → Tree
named_command name about = with_root (λ node. record node { about = Some about }) (new_tree name)

-- the tree with these arguments, one after another
abbrev pub with_arguments : Tree → List Arg → Tree
with_arguments tree [] = tree
with_arguments tree (arg ∷ rest) =
    with_arguments (record tree { node = with_argument tree.node arg }) rest

abbrev pub command_of : List ℕ → List ℕ → List ArgDescription → Tree
command_of name about args = with_arguments (named_command name about) (map arg_of args)

-- the same, which a subcommand has to follow
abbrev pub group_of : List ℕ → List ℕ → List ArgDescription → Tree
group_of name about args = with_arguments
    (with_root (λ node. record node { subcommand_required = true }) (named_command name about))
    (map arg_of args)

abbrev pub with_visible_alias : List ℕ → Tree → Tree
with_visible_alias alias tree =
    with_root (λ node. record node { visible_aliases = node.visible_aliases ++ alias ∷ [] }) tree

-- the result of a step on a value. The step fails only if memory runs out, and an earlier failure
-- stays
abbrev pub MadeWith : {A : Type 0} → (A → A) → Result A Error → Result A Error → Type 0
MadeWith step (Ok value) result =
    MatchResult result (λ made. made ≡ step value) (λ error. error ≡ Memory)
MadeWith step (Err error) result = result ≡ Err error

-- the same of two values; the failure of the first stays
abbrev pub MadeOf : {A B : Type 0} → (A → B → A) → Result A Error → Result B Error → Result A Error
    → Type 0
MadeOf step (Ok value) (Ok other) result =
    MatchResult result (λ made. made ≡ step value other) (λ error. error ≡ Memory)
MadeOf step (Ok value) (Err error) result = result ≡ Err error
MadeOf step (Err error) other result = result ≡ Err error
