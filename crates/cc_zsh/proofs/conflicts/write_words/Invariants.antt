use Rattle.std.proofs.Common.{codes, drop}
use Rattle.cc_base.proofs.WrittenTexts.{GoesOn}
use Rattle.cc_base.specs.Joined.{joined, joined_after}
use Rattle.cc_zsh.specs.Conflicts.{conflict_words, with_ids}
use Rattle.cc_zsh.proofs.conflicts.write_words.Given as goal

abbrev pub invariant-loop-id : goal.invariant-loop-id
invariant-loop-id g l = GoesOn g.W.Sink.taken g.W.Sink.failed l.initial.sink l.sink (joined (codes " ") (conflict_words (with_ids l.arguments l.ids))) (joined_after (codes " ") l.begun (conflict_words (with_ids l.arguments (drop l.id-index l.ids))))
