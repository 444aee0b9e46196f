use Rattle.std.proofs.Common.{drop, map}
use Rattle.cc_base.proofs.WrittenTexts.{GoesOn}
use Rattle.cc_base.specs.Joined.{joined_after}
use Rattle.cc_replies.proofs.reply.put_values.Given as goal

abbrev pub invariant-loop-candidate : goal.invariant-loop-candidate
invariant-loop-candidate g l =
    GoesOn g.W.Sink.taken g.W.Sink.failed l.initial.sink l.sink
    (joined_after l.between l.initial.begun (map (λ candidate. candidate.value) l.candidates))
    (joined_after l.between l.begun (map (λ candidate. candidate.value) (drop l.candidate-index l.candidates)))
