use Rattle.std.proofs.Common.{drop, map}
use Rattle.cc_base.proofs.WrittenTexts.{GoesOn}
use Rattle.cc_base.specs.Joined.{joined_after}
use Rattle.cc_replies.specs.Reply.{shown, zsh_item}
use Rattle.cc_replies.proofs.reply.put_zsh_items.Given as goal

abbrev pub invariant-loop-candidate : goal.invariant-loop-candidate
invariant-loop-candidate g l =
    GoesOn g.W.Sink.taken g.W.Sink.failed l.initial.sink l.sink
    (joined_after l.between l.initial.begun (map (λ candidate. zsh_item (shown candidate)) l.candidates))
    (joined_after l.between l.begun (map (λ candidate. zsh_item (shown candidate)) (drop l.candidate-index l.candidates)))
