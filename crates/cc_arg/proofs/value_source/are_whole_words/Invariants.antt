use Rattle.std.proofs.Common.{◌≡◌, drop}
use Rattle.std.specs.List.{list_all}
use Rattle.cc_arg.specs.ValueSources.{is_whole_word}
use Rattle.cc_arg.proofs.value_source.are_whole_words.Given as goal

-- the visited words can be passed on
abbrev pub invariant-loop-word : goal.invariant-loop-word
invariant-loop-word l = list_all is_whole_word (drop l.word-index l.words) ≡ list_all is_whole_word l.words
