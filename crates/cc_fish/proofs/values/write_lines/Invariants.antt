use Rattle.std.proofs.Common.{[], ◌∷◌, drop, map, filter, not}
use Rattle.cc_base.proofs.WrittenTexts.{GoesOn}
use Rattle.cc_base.specs.Joined.{joined, joined_after}
use Rattle.cc_base.specs.Bytes.{line_feed}
use Rattle.cc_fish.specs.Script.{value_text}
use Rattle.cc_fish.proofs.values.write_lines.Given as goal

abbrev pub invariant-loop-value : goal.invariant-loop-value
invariant-loop-value g l = GoesOn g.W.Sink.taken g.W.Sink.failed l.initial.sink l.sink (joined (line_feed ∷ []) (map value_text (filter (λ value. not value.hide) l.values))) (joined_after (line_feed ∷ []) l.begun (map value_text (filter (λ value. not value.hide) (drop l.value-index l.values))))
