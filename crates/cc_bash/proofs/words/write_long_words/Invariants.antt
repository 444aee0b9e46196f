use Rattle.std.proofs.Common.{◌++◌, [], ◌∷◌, drop, map}
use Rattle.cc_generator.specs.ArgumentNames.{long_word}
use Rattle.cc_bash.proofs.WordLoops.{WordsGoOn}
use Rattle.cc_bash.proofs.words.write_long_words.Given as goal

abbrev pub invariant-loop-alias : goal.invariant-loop-alias
invariant-loop-alias g l = WordsGoOn g.W.Sink.taken g.W.Sink.failed l.initial.sink l.sink l.initial.begun l.begun (map long_word (l.alias-items ++ l.long ∷ [])) (map long_word (drop l.alias-index l.alias-items ++ l.long ∷ []))
