use Rattle.std.proofs.Common.{◌≡◌, ◌++◌, drop}
use Rattle.cc_command.specs.Tree.{forest_of, forest_size}
use Rattle.cc_generator.specs.Subcommands.{named_below, texts_of}
use Rattle.cc_generator.proofs.utils.+push_all.Given as goal

-- the pairs so far and those below the remaining siblings make up the whole
abbrev pub invariant-loop-sibling : goal.invariant-loop-sibling
invariant-loop-sibling l =
    texts_of l.found.items ++ named_below (forest_of (drop l.sibling-index l.siblings))
    ≡ texts_of l.initial.found.items ++ named_below (forest_of l.siblings)

-- the number of nodes among the siblings and below them
abbrev pub decreases-push_all : goal.decreases-push_all
decreases-push_all l = forest_size (forest_of l.siblings.now)
