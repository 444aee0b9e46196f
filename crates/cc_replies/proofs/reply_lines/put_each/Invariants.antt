use Rattle.std.proofs.Common.{drop, filter, flat_map}
use Rattle.cc_base.proofs.WrittenTexts.{GoesOn}
use Rattle.cc_replies.proofs.reply_lines.put_each.Given as goal

abbrev pub invariant-loop-candidate : goal.invariant-loop-candidate
invariant-loop-candidate g l =
    GoesOn g.W.Sink.taken g.W.Sink.failed l.initial.sink l.sink
    (flat_map (g.L.ReplyLines.line l.lines) (filter (λ candidate. g.L.ReplyLines.inserts l.lines candidate.value) l.candidates))
    (flat_map (g.L.ReplyLines.line l.lines) (filter (λ candidate. g.L.ReplyLines.inserts l.lines candidate.value) (drop l.candidate-index l.candidates)))
