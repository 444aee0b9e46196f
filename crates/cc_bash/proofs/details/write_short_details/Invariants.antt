use Rattle.std.proofs.Common.{map, flat_map}
use Rattle.cc_base.proofs.WrittenTexts.{GoesOn}
use Rattle.cc_arg.specs.Aliases.{shorts_left}
use Rattle.cc_arg.specs.ShownNames.{shown_shorts}
use Rattle.cc_generator.specs.ArgumentNames.{short_word}
use Rattle.cc_bash.specs.Arms.{detail_of}
use Rattle.cc_bash.specs.Script.{detail_text}
use Rattle.cc_bash.proofs.details.write_short_details.Given as goal

abbrev pub invariant-loop-short : goal.invariant-loop-short
invariant-loop-short g l = GoesOn g.W.Sink.taken g.W.Sink.failed l.initial.sink l.sink (flat_map detail_text (map (detail_of l.argument) (map short_word (shown_shorts l.argument)))) (flat_map detail_text (map (detail_of l.argument) (map short_word (shorts_left l.short-iterator))))
