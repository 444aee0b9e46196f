use Rattle.complgen_lints.specs.TextLints.{argument_list}
use Rattle.complgen_lints.proofs.Left.{Left}
use Rattle.complgen_lints.proofs.text_lints.push_arguments.Given as goal

abbrev pub invariant-loop-index : goal.invariant-loop-index
invariant-loop-index l = Left (argument_list l.lint) l.initial.found l.found l.index l.arguments
