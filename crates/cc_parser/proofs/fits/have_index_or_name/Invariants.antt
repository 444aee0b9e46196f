use Rattle.std.proofs.Common.{◌≡◌, drop}
use Rattle.std.specs.List.{list_all}
use Rattle.cc_parser.specs.Taken.{has_index_or_name}
use Rattle.cc_parser.proofs.fits.have_index_or_name.Given as goal

abbrev pub invariant-loop-argument : goal.invariant-loop-argument
invariant-loop-argument l =
    list_all has_index_or_name (drop l.argument-index l.arguments) ≡ list_all has_index_or_name l.arguments
