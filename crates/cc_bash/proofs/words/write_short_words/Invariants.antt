use Rattle.std.proofs.Common.{◌++◌, [], ◌∷◌, drop, map}
use Rattle.cc_generator.specs.ArgumentNames.{short_word}
use Rattle.cc_bash.proofs.WordLoops.{WordsGoOn}
use Rattle.cc_bash.proofs.words.write_short_words.Given as goal

abbrev pub invariant-loop-alias : goal.invariant-loop-alias
invariant-loop-alias g l = WordsGoOn g.W.Sink.taken g.W.Sink.failed l.initial.sink l.sink l.initial.begun l.begun (map short_word (l.alias-items ++ l.short ∷ [])) (map short_word (drop l.alias-index l.alias-items ++ l.short ∷ []))
