use Rattle.std.proofs.Common.{◌∙◌, ap}
use Rattle.clap.proofs.WalkLemmas.{first_value-rows}
use Rattle.clap.specs.Words.{found_of}
use Rattle.complgen_command_line.specs.Plans.{is_true}
use Rattle.complgen_command_line.proofs.parse.flag.Goals as goal

pub returns : goal.returns
returns c = c.is_true.ensures
    ∙ ap is_true (c.get_str.ensures ∙ first_value-rows (found_of c.args.values.now) c.args.id.now)
