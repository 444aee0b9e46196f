use Rattle.std.proofs.Common.{◌≡◌, ◌++◌, drop}
use Rattle.std.specs.List.{flat_map}
use Rattle.cc_engine.specs.Options.{short_candidates}
use Rattle.cc_engine.proofs.gathering.option_names.push_shorts.Given as goal

abbrev pub invariant-loop-argument : goal.invariant-loop-argument
invariant-loop-argument l = l.found.items ++ flat_map (short_candidates l.prefix) (drop l.argument-index l.arguments) ≡ l.initial.found.items ++ flat_map (short_candidates l.prefix) l.arguments
