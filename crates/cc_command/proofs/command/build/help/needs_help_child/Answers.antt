use Rattle.std.proofs.Common.{rules}
use Rattle.cc_command.proofs.Forests.{needs_help_child-forest_of}
use Rattle.cc_command.specs.Texts.{help_name}
use Rattle.cc_command.proofs.command.build.help.needs_help_child.Goals as goal

pub returns-then-not-node : goal.returns-then-not-node
unfolding help_name
returns-then-not-node c = rw (needs_help_child-forest_of c.args.node.now c.args.children.now) (search rules)
