use Rattle.std.proofs.Common.{◌≡◌, ◌++◌, map}
use Rattle.std.specs.Vec.Iter.{into_iter_items}
use Rattle.complgen_check.specs.Doubles.{shown_paths}
use Rattle.complgen_check.specs.Findings.{shown, shown_double}
use Rattle.complgen_check.proofs.errors.doubles.found_at.Given as goal

-- with the paths that are left it is the whole
abbrev pub invariant-loop-path : goal.invariant-loop-path
invariant-loop-path l = map shown l.found.items
    ++ map shown_double (shown_paths (into_iter_items l.path-iterator))
    ≡ map shown_double (shown_paths l.fn.paths.items)
