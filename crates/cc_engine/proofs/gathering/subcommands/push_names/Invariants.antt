use Rattle.std.proofs.Common.{◌≡◌, ◌++◌, drop, map}
use Rattle.std.specs.Prelude.{filter}
use Rattle.cc_candidates.specs.Beginning.{begins}
use Rattle.cc_engine.specs.Children.{child_candidate}
use Rattle.cc_engine.proofs.gathering.subcommands.push_names.Given as goal

abbrev pub invariant-loop-name : goal.invariant-loop-name
invariant-loop-name l =
    l.found.items ++ filter (begins l.word) (map (child_candidate l.of.parent.now.node l.of.child.now.node l.of.hidden) (drop l.name-index l.names))
    ≡ l.initial.found.items ++ filter (begins l.word) (map (child_candidate l.of.parent.now.node l.of.child.now.node l.of.hidden) l.names)
