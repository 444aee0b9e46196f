-- The words that a bash script offers at each command, and the values after an option.
use Rattle.std.specs.Prelude.{ℕ, List, [], ◌∷◌, ◌++◌, Bool, not, map, filter, flat_map, decimal, Option, Some, None, unwrap_or}
use Rattle.std.specs.Ordering.{is_lt, nat_cmp}
use Rattle.std.specs.Cmp.Lexicographic.{slice_cmp}
use Rattle.cc_base.specs.Sorting.{in_order}
use Rattle.cc_arg.specs.declared.parts.ArgParts.{ArgParts as Arg}
use Rattle.cc_arg.specs.declared.possible_value.PossibleValue.{PossibleValue}
use Rattle.cc_arg.specs.declared.value_hint.ValueHint.{ValueHint}
use Rattle.cc_arg.specs.declared.value_hint.ValueHint.TheVariants.{Other, FilePath, DirPath}
use Rattle.cc_arg.specs.Arguments.{possible_values}
use Rattle.cc_arg.specs.ShownNames.{shown_shorts, shown_longs}
use Rattle.cc_command.specs.declared.node.Node.{Node}
use Rattle.cc_command.specs.Tree.{Tree}
use Rattle.cc_command.specs.ArgumentLists.{options, positionals}
use Rattle.cc_generator.specs.ArgumentNames.{aliases_then, long_word, short_word}
use Rattle.cc_generator.specs.Subcommands.{sibling_names}
use Rattle.cc_bash.specs.Labels.{Labelled, labelled_commands, root_label}

-- what is offered after an option: the given values, files, the word as it is typed, or nothing
pub data Offered : Type 0 where
  values : List (List ℕ) → Offered
  files : Offered
  typed : Offered
  nothing : Offered

-- what bash learns about the values of an option: that they are names of files, that directories
-- are offered too, or that no space follows
pub data Mode : Type 0 where
  filenames : Mode
  plusdirs : Mode
  nospace : Mode

-- an option as a user types it, what is offered after it, and how
pub record Detail : Type 0 where
  pub word : List ℕ
  pub offered : Offered
  pub mode : Option Mode

-- what is offered at a label: the level in digits, the words, and the details of options
pub record Arm : Type 0 where
  pub label : List ℕ
  pub level : List ℕ
  pub words : List (List ℕ)
  pub details : List Detail

-- the shorts of an argument as a user types them, and its longs: the visible aliases, then the name
abbrev pub short_words : Arg → List (List ℕ)
short_words argument = map short_word (aliases_then argument.visible_short_aliases argument.short)

abbrev pub long_words : Arg → List (List ℕ)
long_words argument = map long_word (aliases_then argument.visible_aliases argument.long)

-- the names of possible values, and of those that are not hidden
abbrev pub names_of_values : List PossibleValue → List (List ℕ)
names_of_values possible = map (λ value. value.name) possible

abbrev pub names_of_shown : List PossibleValue → List (List ℕ)
names_of_shown possible = names_of_values (filter (λ value. not value.hide) possible)

-- the names of an argument's possible values, including hidden ones
abbrev pub value_names : Arg → List (List ℕ)
value_names argument = names_of_values (unwrap_or (possible_values argument) [])

-- what is offered after an option: its possible values, or else what its value hint asks for
abbrev pub offered_for : Option (List PossibleValue) → ValueHint → Offered
offered_for (Some possible) hint = values (names_of_shown possible)
offered_for None DirPath = nothing
offered_for None Other = typed
offered_for None _ = files

-- how values are offered, given the value hint
abbrev pub mode_for : ValueHint → Option Mode
mode_for FilePath = Some filenames
mode_for DirPath = Some plusdirs
mode_for Other = Some nospace
mode_for _ = None

-- what is offered after an option, and how
abbrev pub offered_by : Arg → Offered
offered_by argument = offered_for (possible_values argument) argument.value_hint

abbrev pub mode_of : Arg → Option Mode
mode_of argument = mode_for argument.value_hint

-- the words at a node: shorts, longs, values of positionals, and names of children
unfoldable pub words_at : Tree → List (List ℕ)
words_at tree =
    flat_map short_words tree.node.arguments
    ++ flat_map long_words tree.node.arguments
    ++ flat_map value_names (positionals tree.node)
    ++ sibling_names tree.children

-- the words of an option: its longs, then its shorts
abbrev pub option_words : Arg → List (List ℕ)
option_words argument =
    map long_word (shown_longs argument) ++ map short_word (shown_shorts argument)

-- a word of an option, with what is offered after it
abbrev pub detail_of : Arg → List ℕ → Detail
detail_of argument word = record {
  word = word;
  offered = offered_by argument;
  mode = mode_of argument;
}

-- the details of an option, one for each of its words
abbrev pub option_details : Arg → List Detail
option_details argument = map (detail_of argument) (option_words argument)

-- the details at a node
unfoldable pub details_at : Node → List Detail
details_at node = flat_map option_details (options node)

-- the arm of a node with the given label and level
abbrev pub arm_of : List ℕ → ℕ → Tree → Arm
arm_of label level tree = record {
  label = label;
  level = decimal level;
  words = words_at tree;
  details = details_at tree.node;
}

-- the arm of a node with its own label and level
abbrev pub node_arm : Labelled → Arm
node_arm node = arm_of node.label node.level node.tree

-- whether the arm of one node comes before the arm of another
abbrev pub arm_below : Labelled → Labelled → Bool
arm_below one other = is_lt (slice_cmp nat_cmp one.sort_text other.sort_text)

-- the arms of a tree: the root's arm, then the others in order
unfoldable pub tree_arms : Tree → List Arm
tree_arms tree =
    arm_of (root_label tree) 1 tree ∷ map node_arm (in_order arm_below (labelled_commands tree))
