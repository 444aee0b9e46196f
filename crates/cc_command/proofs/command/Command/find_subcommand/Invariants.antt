use Rattle.std.proofs.Common.{◌≡◌, drop}
use Rattle.cc_command.specs.Tree.{forest_of}
use Rattle.cc_command.specs.Names.{find_child}
use Rattle.cc_command.proofs.command.Command.find_subcommand.Given as goal

-- none of the visited children has the name or alias
abbrev pub invariant-loop-child : goal.invariant-loop-child
invariant-loop-child l = find_child (forest_of (drop l.child-index l.child-items)) l.word ≡ find_child l.self.children l.word
