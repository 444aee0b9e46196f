use Rattle.std.proofs.Common.{◌∙◌, sym}
use Rattle.cc_parser.proofs.ExactApp.{exact_local, simple_app}
use Rattle.cc_parser.proofs.exact.is_parsed_exactly.Goals as goal

pub returns-clause-no_globals : goal.returns-clause-no_globals
returns-clause-no_globals c = λ ok. exact_local c.args.tree.now (sym c.passes.ensures ∙ ok)

pub returns-clause-simple : goal.returns-clause-simple
returns-clause-simple c = λ ok app is. simple_app c.args.tree.now app is (sym c.passes.ensures ∙ ok)
