use Rattle.std.proofs.Common.{◌≡◌, ◌++◌, drop}
use Rattle.complgen_plans.specs.Wanted.{text_tokens}
use Rattle.complgen_plans.proofs.wanted.write_texts.Given as goal

-- what was written and the remaining texts make up the whole
abbrev pub invariant-loop-text : goal.invariant-loop-text
invariant-loop-text l =
    (l.line.tokens ++ text_tokens (drop l.text-index l.texts)
    ≡ l.initial.line.tokens ++ text_tokens l.texts)
    × (l.line.before ≡ l.initial.line.before)
