use Rattle.std.proofs.lemmas.Result.{IfOk-weaker}
use Rattle.std.specs.Option.{option_copied}
use Rattle.complgen_check.proofs.NoWarnings.{named_exactly, notes_hold}
use Rattle.complgen_check.proofs.all_warnings.tree_warnings.Goals as goal

pub returns-clause-premises : goal.returns-clause-premises
returns-clause-premises c = IfOk-weaker c.found_in-found.result _ _
    (λ found reports notes. notes_hold (option_copied c.args.bin) c.args.command found.items reports notes)
    c.found_in-found.ensures

pub returns-clause-exactly : goal.returns-clause-exactly
returns-clause-exactly c = IfOk-weaker c.found_in-found.result _ _
    (λ found reports. named_exactly (option_copied c.args.bin) c.args.command found.items reports)
    c.found_in-found.ensures
