use Rattle.std.proofs.Common.{◌≡◌, ◌++◌, drop}
use Rattle.cc_command.specs.Tree.{forest_of}
use Rattle.cc_generator.specs.Subcommands.{named_siblings, texts_of}
use Rattle.cc_generator.proofs.utils.push_siblings.Given as goal

-- the pairs so far and those of the remaining siblings make up the whole
abbrev pub invariant-loop-sibling : goal.invariant-loop-sibling
invariant-loop-sibling l =
    texts_of l.found.items ++ named_siblings (forest_of (drop l.sibling-index l.siblings))
    ≡ texts_of l.initial.found.items ++ named_siblings (forest_of l.siblings)
