use Rattle.complgen_command_line.proofs.Lines.{subcommand_added}
use Rattle.complgen_command_line.proofs.command_line.asking.Goals as goal

pub returns : goal.returns
returns c =
    let one = subcommand_added _ _ _ _ c.with_subcommand-line.result c.writing.ensures
    c.candidates.ensures c.with_subcommand-line.ensures in
    subcommand_added _ _ _ _ c.with_subcommand.result one
    c.wanted.ensures c.with_subcommand.ensures
