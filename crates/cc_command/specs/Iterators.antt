-- The names and arguments that the iterators of a command still have to yield.
use Rattle.std.specs.Prelude.{ℕ, List, ◌++◌, Bool, filter}
use Rattle.std.specs.Option.{option_to_list, option_copied}
use Rattle.cc_arg.specs.declared.parts.ArgParts.{ArgParts as Arg}
use Rattle.cc_arg.specs.Arguments.{is_positional}
use Rattle.cc_command.specs.ArgumentLists.{is_option, is_flag}
use Rattle.cc_command.specs.declared.command.iterators.Arguments.{Arguments}
use Rattle.cc_command.specs.declared.command.iterators.Kind.{Kind}
use Rattle.cc_command.specs.declared.command.iterators.Kind.TheVariants.{Option, Flag, Positional}
use Rattle.cc_command.specs.declared.command.iterators.NameAndVisibleAliases.{NameAndVisibleAliases}

-- an argument of a kind
abbrev pub is_of_kind : Kind → Arg → Bool
is_of_kind Option = is_option
is_of_kind Flag = is_flag
is_of_kind Positional = is_positional

-- the arguments of the kind that are left
abbrev pub arguments_left : Arguments → List Arg
arguments_left left = filter (is_of_kind left.kind) left.arguments.now

-- the name, unless it was yielded already, then the aliases that are left
abbrev pub names_left : NameAndVisibleAliases → List (List ℕ)
names_left names = option_to_list (option_copied names.name) ++ names.visible_aliases.now
