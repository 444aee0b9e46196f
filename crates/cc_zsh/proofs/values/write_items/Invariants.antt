use Rattle.std.proofs.Common.{drop, map}
use Rattle.cc_base.proofs.WrittenTexts.{GoesOn}
use Rattle.cc_base.specs.Joined.{joined_after}
use Rattle.cc_zsh.specs.Values.{item_separator, item_text, items_text, shown_values}
use Rattle.cc_zsh.proofs.values.write_items.Given as goal

abbrev pub invariant-loop-value : goal.invariant-loop-value
invariant-loop-value g l = GoesOn g.W.Sink.taken g.W.Sink.failed l.initial.sink l.sink (items_text l.form l.values) (joined_after (item_separator l.form) l.begun (map (item_text l.form) (shown_values (drop l.value-index l.values))))
