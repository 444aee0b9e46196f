use Rattle.std.proofs.Common.{drop}
use Rattle.cc_base.proofs.WrittenTexts.{GoesOn}
use Rattle.complgen_check.specs.Report.{report_text}
use Rattle.complgen_check.proofs.report.put_each.Given as goal

abbrev pub invariant-loop-finding : goal.invariant-loop-finding
invariant-loop-finding g l = GoesOn g.W.Sink.taken g.W.Sink.failed l.initial.out l.out (report_text l.report l.lines l.findings) (report_text l.report l.lines (drop l.finding-index l.findings))
