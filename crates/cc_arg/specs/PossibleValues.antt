-- A new possible value.
use Rattle.std.specs.Prelude.{ℕ, List, false, None}
use Rattle.cc_arg.specs.declared.possible_value.PossibleValue.{PossibleValue}

-- a value in which only the name is set
abbrev pub new_possible_value : List ℕ → PossibleValue
new_possible_value name = record { name = name; help = None; hide = false }
