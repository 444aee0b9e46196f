use Rattle.complgen_lints.specs.Parts.{listed_short}
use Rattle.complgen_lints.proofs.Left.{Left}
use Rattle.complgen_lints.proofs.parts.push_shorts.Given as goal

abbrev pub invariant-loop-item : goal.invariant-loop-item
invariant-loop-item l = Left (listed_short l.key) l.initial.parts.items l.parts.items l.item l.shorts
