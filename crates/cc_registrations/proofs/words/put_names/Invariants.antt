use Rattle.std.proofs.Common.{drop, map}
use Rattle.cc_base.proofs.WrittenTexts.{GoesOn}
use Rattle.cc_base.specs.Joined.{joined_after}
use Rattle.cc_registrations.specs.Quoted.{quoted}
use Rattle.cc_registrations.proofs.words.put_names.Given as goal

abbrev pub invariant-loop-name : goal.invariant-loop-name
invariant-loop-name g l =
    GoesOn g.W.Sink.taken g.W.Sink.failed l.initial.sink l.sink
    (joined_after l.between l.initial.begun (map (quoted l.quoting) (map (λ name. name.now) l.names)))
    (joined_after l.between l.begun (map (quoted l.quoting) (map (λ name. name.now) (drop l.name-index l.names))))
