use Rattle.complgen_lints.specs.Parts.{value_name}
use Rattle.complgen_lints.proofs.Left.{Left}
use Rattle.complgen_lints.proofs.parts.push_value_names.Given as goal

abbrev pub invariant-loop-item : goal.invariant-loop-item
invariant-loop-item l = Left value_name l.initial.parts.items l.parts.items l.item l.values
