-- Names of subcommands that an earlier one has, or the same one before.
use Rattle.std.specs.Prelude.{ℕ, suc, List, [], ◌++◌, map}
use Rattle.cc_command.specs.declared.node.Node.{Node}
use Rattle.cc_command.specs.Tree.{Forest, none, more}
use Rattle.complgen_lints.specs.Parts.{name_parts}
use Rattle.complgen_lints.specs.PlacedNames.{named_part, taken_from}
use Rattle.complgen_lints.specs.declared.found.Finding.{Finding}
use Rattle.complgen_lints.specs.declared.names.PlacedName.{PlacedName}
use Rattle.complgen_lints.specs.declared.warning.Premise.{Premise}

-- the name and the aliases of a subcommand
abbrev pub names_of : ℕ → Node → List PlacedName
names_of child node = map (named_part child node.name) (name_parts node)

-- the names of the subcommands from this index on, one subcommand after another
abbrev pub names_from : ℕ → Forest → List PlacedName
names_from index none = []
names_from index (more node below rest) = names_of index node ++ names_from (suc index) rest

-- the names of subcommands that are already taken
abbrev pub taken_names : Forest → List (Finding Premise)
taken_names children = taken_from [] (names_from 0 children)
