use Rattle.std.proofs.Common.{drop, map, flat_map}
use Rattle.cc_base.proofs.WrittenTexts.{GoesOn}
use Rattle.cc_bash.specs.Nodes.{case_of}
use Rattle.cc_bash.specs.Script.{case_text}
use Rattle.cc_bash.proofs.cases.write_cases.Given as goal

abbrev pub invariant-loop-case : goal.invariant-loop-case
invariant-loop-case g l = GoesOn g.W.Sink.taken g.W.Sink.failed l.initial.sink l.sink (flat_map case_text (map case_of l.cases)) (flat_map case_text (map case_of (drop l.case-index l.cases)))
