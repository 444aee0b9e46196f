use Rattle.std.proofs.Common.{flat_map}
use Rattle.cc_base.proofs.WrittenTexts.{GoesOn}
use Rattle.cc_arg.specs.Aliases.{shorts_left}
use Rattle.cc_arg.specs.ShownNames.{shown_shorts}
use Rattle.cc_fish.specs.Script.{short_text}
use Rattle.cc_fish.proofs.records.write_shorts.Given as goal

abbrev pub invariant-loop-short : goal.invariant-loop-short
invariant-loop-short g l = GoesOn g.W.Sink.taken g.W.Sink.failed l.initial.sink l.sink (flat_map short_text (shown_shorts l.argument)) (flat_map short_text (shorts_left l.short-iterator))
