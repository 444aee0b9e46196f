use Rattle.std.proofs.Common.{◌≡◌, take}
use Rattle.cc_arg.proofs.possible_value.copy_of_values.Given as goal

-- the copy has the values that the loop has visited
abbrev pub invariant-loop-value : goal.invariant-loop-value
invariant-loop-value l = l.copy ≡ take l.value-index l.values
