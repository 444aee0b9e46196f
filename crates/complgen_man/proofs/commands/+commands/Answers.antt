use Rattle.std.proofs.Common.{◌≡◌, ◌<◌, ◌+◌, ◌*◌, List, arith, rules, ap}
use Rattle.cc_command.specs.Tree.{Tree, forest_of, forest_size, tree_size}
use Rattle.cc_command.proofs.Forests.{below_is_smaller}
use Rattle.complgen_man.proofs.commands.+commands.Goals as goal

pub write_command-write_commands-requires : goal.write_command-write_commands-requires
write_command-write_commands-requires g t c =
    let is : forest_size (forest_of c.get_subcommands.result.now) ≡ tree_size c.args.command.now = ap forest_size c.get_subcommands.ensures in
    let smaller : 2 * forest_size (forest_of c.get_subcommands.result.now) < 2 * tree_size c.args.command.now + 1 = omega (arith, is) in
    search rules

pub write_commands-write_command-requires : goal.write_commands-write_command-requires
write_commands-write_command-requires g t c =
    let commands : List Tree = c.args.commands.now in
    let command : Tree = c.command-item.result in
    let is : tree_size command ≡ _ = ap tree_size c.command-item.is in
    let smaller : 2 * tree_size command + 1 < 2 * forest_size (forest_of commands) =
    omega (arith, is, below_is_smaller commands c.loop-command.command-index command c.loop-command-test.true) in
    search rules
