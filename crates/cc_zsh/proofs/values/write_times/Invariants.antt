use Rattle.cc_base.proofs.WrittenTexts.{GoesOn}
use Rattle.cc_zsh.specs.Values.{one_value, times}
use Rattle.cc_zsh.proofs.values.write_times.Given as goal

abbrev pub invariant-loop-left : goal.invariant-loop-left
invariant-loop-left g l = GoesOn g.W.Sink.taken g.W.Sink.failed l.initial.sink l.sink (times l.count (one_value l.argument)) (times l.left (one_value l.argument))

-- how many remain
abbrev pub decreases-loop-left : goal.decreases-loop-left
decreases-loop-left g l = l.left
