use Rattle.std.proofs.Common.{drop, flat_map, map, string_bytes}
use Rattle.cc_base.proofs.WrittenTexts.{GoesOn}
use Rattle.cc_caller.specs.WordList.{line}
use Rattle.cc_caller.proofs.word_list.write_lines.Given as goal

abbrev pub invariant-loop-long : goal.invariant-loop-long
invariant-loop-long g l =
    GoesOn g.W.Sink.taken g.W.Sink.failed l.initial.sink l.sink (flat_map line (map string_bytes l.longs))
    (flat_map line (map string_bytes (drop l.long-index l.longs)))
