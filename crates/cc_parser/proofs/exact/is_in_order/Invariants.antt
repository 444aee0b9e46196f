use Rattle.std.proofs.Common.{◌≡◌, drop}
use Rattle.std.specs.List.{list_all}
use Rattle.cc_parser.specs.Exact.{is_placed}
use Rattle.cc_parser.proofs.exact.is_in_order.Given as goal

abbrev pub invariant-loop-argument : goal.invariant-loop-argument
invariant-loop-argument l =
    list_all (is_placed l.count) (drop l.argument-index l.arguments) ≡ list_all (is_placed l.count) l.arguments
