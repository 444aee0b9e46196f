use Rattle.std.proofs.Common.{◌≡◌, ◌++◌, map}
use Rattle.cc_generator.specs.Nodes.{nodes_left}
use Rattle.cc_zsh.specs.Functions.{functions_below}
use Rattle.cc_generator.specs.Flat.{tree_at}
use Rattle.cc_zsh.specs.Named.{function_named}
use Rattle.cc_zsh.proofs.PreorderFunctions.{function_at}
use Rattle.cc_zsh.proofs.functions.commands_below.Given as goal

-- the commands so far and those of the remaining nodes make up the whole
abbrev pub invariant-loop-node : goal.invariant-loop-node
invariant-loop-node l =
    map function_named l.found.items ++ map function_at (nodes_left l.node-iterator)
    ≡ functions_below (tree_at l.flat 0).children
