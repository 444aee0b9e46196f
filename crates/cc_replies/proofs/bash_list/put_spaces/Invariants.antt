use Rattle.std.proofs.Common.{◌-◌, replicate}
use Rattle.cc_base.proofs.WrittenTexts.{GoesOn}
use Rattle.cc_replies.specs.BashList.{space}
use Rattle.cc_replies.proofs.bash_list.put_spaces.Given as goal

abbrev pub invariant-loop : goal.invariant-loop
invariant-loop g l =
    GoesOn g.W.Sink.taken g.W.Sink.failed l.initial.sink l.sink (replicate l.count space)
    (replicate (l.count - l.counter) space)
