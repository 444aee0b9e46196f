use Rattle.complgen_command_line.proofs.Lines.{subcommand_added}
use Rattle.complgen_command_line.proofs.command_line.checking.Goals as goal

pub returns : goal.returns
returns c =
    subcommand_added _ _ _ _ c.with_subcommand.result c.asking.ensures
    c.check.ensures c.with_subcommand.ensures
