use Rattle.std.proofs.Common.{◌≡◌, ◌++◌, drop}
use Rattle.std.specs.List.{flat_map}
use Rattle.cc_engine.specs.Options.{hidden_beginning}
use Rattle.cc_engine.proofs.gathering.option_names.push_hidden_longs.Given as goal

abbrev pub invariant-loop-argument : goal.invariant-loop-argument
invariant-loop-argument l = l.found.items ++ flat_map (hidden_beginning l.long) (drop l.argument-index l.arguments) ≡ l.initial.found.items ++ flat_map (hidden_beginning l.long) l.arguments
