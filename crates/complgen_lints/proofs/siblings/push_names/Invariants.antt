use Rattle.std.proofs.Common.{◌≡◌, ◌++◌, drop}
use Rattle.cc_command.specs.Tree.{forest_of}
use Rattle.complgen_lints.specs.SiblingNames.{names_from}
use Rattle.complgen_lints.proofs.siblings.push_names.Given as goal

-- the names of the children so far and of the remaining ones make the whole
abbrev pub invariant-loop-index : goal.invariant-loop-index
invariant-loop-index l =
    l.names.items ++ names_from l.index (forest_of (drop l.index l.children))
    ≡ l.initial.names.items ++ names_from 0 (forest_of l.children)
