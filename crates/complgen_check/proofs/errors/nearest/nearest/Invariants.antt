use Rattle.std.specs.Prelude.{◌<◌, IfSome, length}
use Rattle.complgen_check.proofs.errors.nearest.nearest.Given as goal

abbrev pub invariant-loop-index : goal.invariant-loop-index
invariant-loop-index l = IfSome l.nearest (λ index. index < length l.known)
