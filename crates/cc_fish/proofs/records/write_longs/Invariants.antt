use Rattle.std.proofs.Common.{flat_map}
use Rattle.cc_base.proofs.WrittenTexts.{GoesOn}
use Rattle.cc_arg.specs.Aliases.{longs_left}
use Rattle.cc_arg.specs.ShownNames.{shown_longs}
use Rattle.cc_fish.specs.Script.{long_text}
use Rattle.cc_fish.proofs.records.write_longs.Given as goal

abbrev pub invariant-loop-long : goal.invariant-loop-long
invariant-loop-long g l = GoesOn g.W.Sink.taken g.W.Sink.failed l.initial.sink l.sink (flat_map long_text (shown_longs l.argument)) (flat_map long_text (longs_left l.long-iterator))
