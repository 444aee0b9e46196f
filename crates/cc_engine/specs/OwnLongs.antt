-- The argument that a long names.
use Rattle.std.specs.Prelude.{ℕ, List, Bool, Some, bytes_eq}
use Rattle.std.specs.Option.{option_eq}
use Rattle.cc_arg.specs.declared.parts.ArgParts.{ArgParts as Arg}

-- the flag is the argument's long itself, not one of its aliases
abbrev pub has_own_long : List ℕ → Arg → Bool
has_own_long flag argument = option_eq bytes_eq argument.long (Some flag)
