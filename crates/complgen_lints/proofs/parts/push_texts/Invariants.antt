use Rattle.complgen_lints.specs.Parts.{listed_text}
use Rattle.complgen_lints.proofs.Left.{Left}
use Rattle.complgen_lints.proofs.parts.push_texts.Given as goal

abbrev pub invariant-loop-item : goal.invariant-loop-item
invariant-loop-item l = Left (listed_text l.key) l.initial.parts.items l.parts.items l.item l.texts
