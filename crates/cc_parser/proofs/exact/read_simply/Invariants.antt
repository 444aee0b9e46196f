use Rattle.std.proofs.Common.{◌≡◌, drop}
use Rattle.std.specs.List.{list_all}
use Rattle.cc_parser.specs.Arguments.{reads_simply}
use Rattle.cc_parser.proofs.exact.read_simply.Given as goal

abbrev pub invariant-loop-argument : goal.invariant-loop-argument
invariant-loop-argument l = list_all reads_simply (drop l.argument-index l.arguments) ≡ list_all reads_simply l.arguments
