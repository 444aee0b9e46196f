use Rattle.std.proofs.Common.{◌≡◌, drop}
use Rattle.cc_parser.specs.Parsers.{any_global}
use Rattle.cc_parser.proofs.globals.any_global.Given as goal

abbrev pub invariant-loop-argument : goal.invariant-loop-argument
invariant-loop-argument l = any_global (drop l.argument-index l.arguments) ≡ any_global l.arguments
