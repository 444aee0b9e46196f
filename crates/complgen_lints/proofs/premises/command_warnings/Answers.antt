use Rattle.std.proofs.Common.{◌≡◌, ◌∙◌, ap, rules}
use Rattle.std.specs.Option.{option_copied}
use Rattle.cc_command.specs.Tree.{Tree}
use Rattle.complgen_lints.specs.Lists.{is_nil}
use Rattle.complgen_lints.specs.PremiseList.{premise_list}
use Rattle.complgen_lints.specs.Premises.{premises_in}
use Rattle.complgen_lints.proofs.PremisesFound.{named_exactly, notes_hold}
use Rattle.complgen_lints.proofs.premises.command_warnings.Goals as goal

pub returns-clause-premises : goal.returns-clause-premises
returns-clause-premises c = λ notes.
    let bin = option_copied c.args.bin in
    let tree : Tree = c.args.command.now in
    let warnings = c.push_tree.new.warnings.items in
    let list : premises_in warnings ≡ premise_list bin tree = search rules in
    notes_hold bin tree warnings list notes

pub returns-clause-exactly : goal.returns-clause-exactly
returns-clause-exactly c =
    let bin = option_copied c.args.bin in
    let tree : Tree = c.args.command.now in
    let list : premises_in c.push_tree.new.warnings.items ≡ premise_list bin tree = search rules in
    ap is_nil list ∙ named_exactly bin tree
