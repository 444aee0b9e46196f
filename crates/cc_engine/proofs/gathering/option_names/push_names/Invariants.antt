use Rattle.std.proofs.Common.{◌≡◌, ◌++◌, drop, map}
use Rattle.std.specs.Prelude.{codes, filter}
use Rattle.cc_candidates.specs.Beginning.{begins}
use Rattle.cc_engine.specs.Options.{long_candidate}
use Rattle.cc_engine.proofs.gathering.option_names.push_names.Given as goal

abbrev pub invariant-loop-name : goal.invariant-loop-name
invariant-loop-name l =
    l.found.items ++ filter (begins (codes "--" ++ l.long)) (map (long_candidate l.argument l.hidden) (drop l.name-index l.names))
    ≡ l.initial.found.items ++ filter (begins (codes "--" ++ l.long)) (map (long_candidate l.argument l.hidden) l.names)
