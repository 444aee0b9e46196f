use Rattle.std.proofs.Common.{take}
use Rattle.complgen_check.specs.Checking.{AreWarnings}
use Rattle.complgen_check.proofs.checking.warned.Given as goal

-- the findings so far show the warnings so far
abbrev pub invariant-loop-warning : goal.invariant-loop-warning
invariant-loop-warning l = AreWarnings (take l.warning-index l.warnings) l.found.items
