use Rattle.std.proofs.Common.{◌≡◌, take}
use Rattle.cc_program.specs.Described.{described_values}
use Rattle.cc_program.proofs.arguments.possible_values.Given as goal

abbrev pub invariant-loop-name : goal.invariant-loop-name
invariant-loop-name l = l.values.items ≡ described_values (take l.name-index l.with_helps)
