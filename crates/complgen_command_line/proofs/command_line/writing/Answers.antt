use Rattle.complgen_command_line.proofs.Lines.{subcommand_added}
use Rattle.complgen_command_line.proofs.command_line.writing.Goals as goal

pub returns : goal.returns
returns c =
    let one = subcommand_added _ _ _ _ c.with_subcommand-line.result c.top.ensures
    c.script.ensures c.with_subcommand-line.ensures in
    let two = subcommand_added _ _ _ _ c.with_subcommand-line-2.result one
    c.scripts.ensures c.with_subcommand-line-2.ensures in
    subcommand_added _ _ _ _ c.with_subcommand.result two
    c.for_shell-register.ensures c.with_subcommand.ensures
