-- Printed forms of some arguments.
use Rattle.std.specs.Prelude.{◌≡◌, [], ◌∷◌, true, Some, refl, codes}
use Rattle.std.specs.Char.{encode_utf8}
use Rattle.cc_arg.specs.Arguments.{new_arg}
use Rattle.cc_arg.specs.Printed.{printed, printed_after_name, printed_names, printed_values}
use Rattle.cc_arg.specs.declared.parts.ArgParts.{ArgParts as Arg}
use Rattle.cc_arg.specs.declared.action.ArgAction.TheVariants.{Count}

abbrev option : Arg
option = record (new_arg (codes "o")) { long = Some (codes "o"); value_names = codes "N" ∷ []; num_args = Some (record { least = 0; greatest = 2 }) }

option_form : printed option ≡ codes "--o [<N>...]"
unfolding printed printed_names printed_values printed_after_name
option_form = refl

abbrev positional : Arg
positional = record (new_arg (codes "p")) { required = true; num_args = Some (record { least = 2; greatest = 2 }) }

positional_form : printed positional ≡ codes "<p> <p>"
unfolding printed printed_names printed_values printed_after_name
positional_form = refl

abbrev flag : Arg
flag = record (new_arg (codes "v")) { short = Some 118; action = Some Count }

flag_form : printed flag ≡ codes "-v..."
unfolding printed printed_names printed_values printed_after_name encode_utf8
flag_form = refl
