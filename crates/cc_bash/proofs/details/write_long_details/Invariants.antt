use Rattle.std.proofs.Common.{map, flat_map}
use Rattle.cc_base.proofs.WrittenTexts.{GoesOn}
use Rattle.cc_arg.specs.Aliases.{longs_left}
use Rattle.cc_arg.specs.ShownNames.{shown_longs}
use Rattle.cc_generator.specs.ArgumentNames.{long_word}
use Rattle.cc_bash.specs.Arms.{detail_of}
use Rattle.cc_bash.specs.Script.{detail_text}
use Rattle.cc_bash.proofs.details.write_long_details.Given as goal

abbrev pub invariant-loop-long : goal.invariant-loop-long
invariant-loop-long g l = GoesOn g.W.Sink.taken g.W.Sink.failed l.initial.sink l.sink (flat_map detail_text (map (detail_of l.argument) (map long_word (shown_longs l.argument)))) (flat_map detail_text (map (detail_of l.argument) (map long_word (longs_left l.long-iterator))))
