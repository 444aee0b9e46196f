use Rattle.std.proofs.Common.{flat_map, length}
use Rattle.cc_base.proofs.WrittenTexts.{GoesOn}
use Rattle.cc_tables.specs.Script.{node_text}
use Rattle.cc_tables.proofs.tables.write_visits.Given as goal

abbrev pub invariant-loop-visits : goal.invariant-loop-visits
invariant-loop-visits g l = GoesOn g.W.Sink.taken g.W.Sink.failed l.initial.sink l.sink (flat_map (λ visit. node_text l.frame (g.R.TableRows.text l.rows) (g.R.TableRows.rows l.rows) visit.key visit.tree) l.initial.visits) (flat_map (λ visit. node_text l.frame (g.R.TableRows.text l.rows) (g.R.TableRows.rows l.rows) visit.key visit.tree) l.visits)

-- how many visits remain
abbrev pub decreases-loop-visits : goal.decreases-loop-visits
decreases-loop-visits g l = length l.visits
