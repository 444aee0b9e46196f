use Rattle.std.proofs.Common.{◌≡◌, ◌++◌, drop, map}
use Rattle.cc_engine.specs.Options.{short_candidate}
use Rattle.cc_engine.proofs.gathering.option_names.push_short_names.Given as goal

abbrev pub invariant-loop-name : goal.invariant-loop-name
invariant-loop-name l = l.found.items ++ map (short_candidate l.prefix l.argument) (drop l.name-index l.names) ≡ l.initial.found.items ++ map (short_candidate l.prefix l.argument) l.names
