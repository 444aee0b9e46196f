-- The options, values and subcommands that a zsh script offers at each visible path of a tree.
use Rattle.std.specs.Prelude.{ℕ, List, [], ◌∷◌, ◌++◌, if◌then◌else◌, map, unwrap_or}
use Rattle.std.specs.List.{flat_map}
use Rattle.cc_arg.specs.declared.parts.ArgParts.{ArgParts as Arg}
use Rattle.cc_arg.specs.declared.names.ShownName.{ShownName}
use Rattle.cc_arg.specs.declared.names.ShownName.TheVariants.{Short, Long}
use Rattle.cc_arg.specs.Arguments.{takes_values}
use Rattle.cc_arg.specs.ShownNames.{shown_names}
use Rattle.cc_base.specs.Bytes.{underscore}
use Rattle.cc_command.specs.declared.node.Node.{Node}
use Rattle.cc_command.specs.ArgumentLists.{flags, options}
use Rattle.cc_command.specs.Tree.{Tree}
use Rattle.cc_quote.specs.QuotedWord.{line_feeds_as_spaces}
use Rattle.cc_generator.specs.Visits.{Keyed, longer_path, path_visits}
use Rattle.cc_zsh.specs.Conflicts.{conflict_words, conflicts_of}
use Rattle.cc_zsh.specs.Functions.{Entry, Function, entries_of}
use Rattle.cc_zsh.specs.Nested.{function_label}
use Rattle.cc_zsh.specs.Options.{is_repeated, name_word}
use Rattle.cc_zsh.specs.Reader.{Bracket, Description, Path, Shown, ZshOption}
use Rattle.cc_zsh.specs.Reader.Bracket.{after_equals, after_plus, alone}

-- an argument of a node under one of its names: the conflicting names, which for a global argument
-- are looked up in the node above; whether it may be used again; and its help text, if there is one
abbrev pub option_row : Node → Node → Arg → Bracket → List ℕ → ZshOption
option_row above node argument bracket name = record {
  conflicts = conflict_words (conflicts_of above node argument);
  repeated = is_repeated argument;
  name = name;
  bracket = bracket;
  help = line_feeds_as_spaces (unwrap_or argument.help []);
}

-- the text before the bracket of an argument: a sign if it takes values
abbrev pub bracket_after : Arg → ShownName → Bracket
bracket_after argument (Short _) = if takes_values argument then after_plus else alone
bracket_after argument (Long _) = if takes_values argument then after_equals else alone

-- an argument under each of its shown names, shorts first
abbrev pub argument_rows : Node → Node → Arg → List ZshOption
argument_rows above node argument =
    map (λ name. option_row above node argument (bracket_after argument name) (name_word name))
    (shown_names argument)

-- the options and the flags of a node, given the node above it
abbrev pub node_rows : Node → Node → List ZshOption
node_rows above node =
    flat_map (argument_rows above node) (options node)
    ++ flat_map (argument_rows above node) (flags node)

-- a visible name of a child with its description, in which each line feed is a space
abbrev pub entry_row : Entry → Entry
entry_row entry = record { word = entry.word; help = line_feeds_as_spaces entry.help }

-- what is offered at a visible path
abbrev pub shown_at : Keyed Path → Shown
shown_at visit = record {
  path = visit.key;
  options = node_rows visit.above visit.tree.node;
  children = map entry_row (entries_of visit.tree.children);
}

-- what is offered at all visible paths, path by path
abbrev pub all_shown_at : Tree → List Shown
all_shown_at root = map shown_at (path_visits longer_path [] root)

-- a function that describes the children of a node
abbrev pub description_of : Function → Description
description_of function =
    record {
      label = underscore ∷ function_label function.name;
      entries = map entry_row function.entries;
    }
