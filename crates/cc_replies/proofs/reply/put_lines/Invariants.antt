use Rattle.std.proofs.Common.{drop, flat_map}
use Rattle.cc_base.proofs.WrittenTexts.{GoesOn}
use Rattle.cc_replies.specs.Reply.{candidate_line}
use Rattle.cc_replies.proofs.reply.put_lines.Given as goal

abbrev pub invariant-loop-candidate : goal.invariant-loop-candidate
invariant-loop-candidate g l =
    GoesOn g.W.Sink.taken g.W.Sink.failed l.initial.sink l.sink (flat_map candidate_line l.candidates)
    (flat_map candidate_line (drop l.candidate-index l.candidates))
