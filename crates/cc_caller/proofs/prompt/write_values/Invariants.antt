use Rattle.std.proofs.Common.{drop}
use Rattle.cc_base.proofs.WrittenTexts.{GoesOn}
use Rattle.cc_caller.specs.Prompt.{prompt_reply}
use Rattle.cc_caller.proofs.prompt.write_values.Given as goal

abbrev pub invariant-loop-candidate : goal.invariant-loop-candidate
invariant-loop-candidate g l =
    GoesOn g.W.Sink.taken g.W.Sink.failed l.initial.sink l.sink (prompt_reply l.found)
    (prompt_reply (drop l.candidate-index l.found))
