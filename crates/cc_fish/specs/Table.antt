-- The records of a command tree in fish, for each visible path.
use Rattle.std.specs.Prelude.{ℕ, List, [], ◌∷◌, ◌++◌, Bool, true, false, not, Option, Some, None, codes, encode_utf8, filter, flat_map, map, option_map, unwrap_or}
use Rattle.std.specs.List.{list_any}
use Rattle.cc_arg.specs.declared.parts.ArgParts.{ArgParts as Arg}
use Rattle.cc_arg.specs.declared.possible_value.PossibleValue.{PossibleValue}
use Rattle.cc_arg.specs.declared.value_hint.ValueHint.{ValueHint}
use Rattle.cc_arg.specs.declared.value_hint.ValueHint.TheVariants.{Unknown, AnyPath, FilePath, DirPath, ExecutablePath, CommandName, CommandString, Username, Hostname}
use Rattle.cc_arg.specs.Arguments.{is_positional, possible_values}
use Rattle.cc_arg.specs.ShownNames.{shown_shorts, shown_longs}
use Rattle.cc_command.specs.declared.node.Node.{Node}
use Rattle.cc_command.specs.ArgumentLists.{options, flags}
use Rattle.cc_command.specs.Names.{full_name, visible_names}
use Rattle.cc_command.specs.Tree.{Forest, none, more, Tree}
use Rattle.cc_base.specs.Bytes.{tab, dash}
use Rattle.cc_quote.specs.Escapes.{replace_byte}
use Rattle.cc_quote.specs.QuotedWord.{line_feeds_as_spaces}
use Rattle.cc_generator.specs.Visits.{Keyed, path_visits, longer_path}
use Rattle.cc_generator.specs.Subcommands.{sibling_names}
use Rattle.cc_fish.specs.Records.{Condition, Marks, Record}

-- ---- the conditions of a node's records

-- the excluded names: those of the children; none at the root
abbrev pub excluded_names : List (List ℕ) → Forest → List (List ℕ)
excluded_names [] children = []
excluded_names (name ∷ names) children = sibling_names children

-- the bin name in names of functions, with `_` for each `-`
abbrev pub function_name : List ℕ → List ℕ
function_name bin_name = replace_byte dash (codes "_") bin_name

-- the beginning of the names of a program's functions
abbrev pub function_begin : List ℕ → List ℕ
function_begin bin_name = codes "__fish_" ++ function_name bin_name

-- the condition of the records of the node at a path; none at a root without children
abbrev pub condition_at : List ℕ → List (List ℕ) → Forest → Option Condition
condition_at bin_name [] none = None
condition_at bin_name path children = Some (record {
  function = function_begin bin_name;
  path = path;
  excluded = excluded_names path children;
})

-- ---- the values of an option

-- the possible values that are not hidden, if values are listed
abbrev pub shown_values : Arg → Option (List PossibleValue)
shown_values argument = option_map (filter (λ value. not value.hide)) (possible_values argument)

-- the word that offers a value: its name, a tab, and its help text if there is one
abbrev pub value_word : PossibleValue → List ℕ
value_word value = value.name ++ tab ∷ line_feeds_as_spaces (unwrap_or value.help [])

-- a value follows, and fish offers its default completions
abbrev pub only_required : Marks
only_required = record { required = true; no_files = false; files = false }

-- a value follows, and files are offered
abbrev pub required_files : Marks
required_files = record { required = true; no_files = false; files = true }

-- a value follows, and no files are offered
abbrev pub required_no_files : Marks
required_no_files = record { required = true; no_files = true; files = false }

-- the marks of an option whose values are not listed
abbrev pub hint_marks : ValueHint → Marks
hint_marks Unknown = only_required
hint_marks AnyPath = required_files
hint_marks FilePath = required_files
hint_marks ExecutablePath = required_files
hint_marks _ = required_no_files

-- the function of fish that offers values of the hint's kind
abbrev pub hint_offers : ValueHint → Option (List (List ℕ))
hint_offers DirPath = Some (codes "(__fish_complete_directories)" ∷ [])
hint_offers CommandString = Some (codes "(__fish_complete_command)" ∷ [])
hint_offers CommandName = Some (codes "(__fish_complete_command)" ∷ [])
hint_offers Username = Some (codes "(__fish_complete_users)" ∷ [])
hint_offers Hostname = Some (codes "(__fish_print_hostnames)" ∷ [])
hint_offers _ = None

-- the marks, and what is offered: the listed values if there are any, else what the hint asks for
abbrev pub value_marks : Option (List PossibleValue) → ValueHint → Marks
value_marks (Some values) hint = required_no_files
value_marks None hint = hint_marks hint

abbrev pub value_offers : Option (List PossibleValue) → ValueHint → Option (List (List ℕ))
value_offers (Some values) hint = Some (map value_word values)
value_offers None hint = hint_offers hint

-- ---- the records of a node

-- the shorts of an argument, in UTF-8
abbrev pub short_names : Arg → List (List ℕ)
short_names argument = map encode_utf8 (shown_shorts argument)

-- the record of a flag: its names and its help text
abbrev pub flag_record : List ℕ → Option Condition → Arg → Record
flag_record bin_name when argument = record {
  command = Some bin_name;
  when = when;
  shorts = short_names argument;
  longs = shown_longs argument;
  description = option_map line_feeds_as_spaces argument.help;
  marks = record { required = false; no_files = false; files = false };
  offered = None;
}

-- the record of an option, which also has its values
abbrev pub option_record : List ℕ → Option Condition → Arg → Record
option_record bin_name when argument = record (flag_record bin_name when argument) {
  marks = value_marks (shown_values argument) argument.value_hint;
  offered = value_offers (shown_values argument) argument.value_hint;
}

-- whether a node has a positional
abbrev pub has_positionals : Node → Bool
has_positionals node = list_any is_positional node.arguments

-- the record of a child's name, which marks that no files are offered if the node has no positional
abbrev pub child_record : List ℕ → Option Condition → Bool → Option (List ℕ) → List ℕ → Record
child_record bin_name when no_files about name = record {
  command = Some bin_name;
  when = when;
  shorts = [];
  longs = [];
  description = option_map line_feeds_as_spaces about;
  marks = record { required = false; no_files = no_files; files = false };
  offered = Some (name ∷ []);
}

-- the records of the visible names of siblings
abbrev pub child_records : List ℕ → Option Condition → Bool → Forest → List Record
child_records bin_name when no_files none = []
child_records bin_name when no_files (more node below rest) =
    map (child_record bin_name when no_files node.about) (visible_names node)
    ++ child_records bin_name when no_files rest

-- the records of a node: of its options, of its flags, and of its children's visible names
abbrev pub node_records : List ℕ → Option Condition → Tree → List Record
node_records bin_name when tree =
    map (option_record bin_name when) (options tree.node)
    ++ map (flag_record bin_name when) (flags tree.node)
    ++ child_records bin_name when (not (has_positionals tree.node)) tree.children

-- the records at a visible path of a program
abbrev pub table : List ℕ → Keyed (List (List ℕ)) → List Record
table bin_name visit =
    node_records bin_name (condition_at bin_name visit.key visit.tree.children) visit.tree

-- the records at all visible paths, path by path
abbrev pub tables : Tree → List Record
tables tree = flat_map (table (full_name tree.node)) (path_visits longer_path [] tree)
