use Rattle.std.proofs.Common.{◌+◌, ◌*◌, drop}
use Rattle.cc_base.proofs.WrittenTexts.{GoesOn}
use Rattle.cc_command.specs.Tree.{forest_of, forest_size, tree_size}
use Rattle.complgen_man.specs.Page.{commands_text}
use Rattle.complgen_man.proofs.commands.+commands.Given as goal

abbrev pub invariant-write_commands-loop-command : goal.invariant-write_commands-loop-command
invariant-write_commands-loop-command g l = GoesOn g.W.Sink.taken g.W.Sink.failed l.initial.sink l.sink (commands_text (forest_of l.commands)) (commands_text (forest_of (drop l.command-index l.commands)))

-- the number of nodes below a command, and that of its children
abbrev pub decreases-write_command : goal.decreases-write_command
decreases-write_command g l = 2 * tree_size l.command.now + 1

abbrev pub decreases-write_commands : goal.decreases-write_commands
decreases-write_commands g l = 2 * forest_size (forest_of l.commands.now)
