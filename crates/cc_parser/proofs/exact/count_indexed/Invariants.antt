use Rattle.std.proofs.Common.{◌≡◌, ◌≤◌, take}
use Rattle.cc_parser.specs.Exact.{count_indexed}
use Rattle.cc_parser.proofs.exact.count_indexed.Given as goal

abbrev pub invariant-loop-argument : goal.invariant-loop-argument
invariant-loop-argument l = (l.count ≡ count_indexed (take l.argument-index l.arguments)) × (l.count ≤ l.argument-index)
