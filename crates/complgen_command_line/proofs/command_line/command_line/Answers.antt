use Rattle.complgen_command_line.proofs.Lines.{subcommand_added}
use Rattle.complgen_command_line.proofs.command_line.command_line.Goals as goal

pub returns : goal.returns
returns c =
    subcommand_added _ _ _ _ c.with_subcommand.result c.checking.ensures
    c.man.ensures c.with_subcommand.ensures
