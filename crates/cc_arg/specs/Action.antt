-- The actions that take values.
use Rattle.std.specs.Prelude.{Bool, true, false}
use Rattle.cc_arg.specs.declared.action.ArgAction.{ArgAction}
use Rattle.cc_arg.specs.declared.action.ArgAction.TheVariants.{Set, Append, SetTrue, SetFalse, Count, Help, HelpShort, HelpLong, Version}

-- the action takes values
abbrev pub action_takes_values : ArgAction → Bool
action_takes_values Set = true
action_takes_values Append = true
action_takes_values SetTrue = false
action_takes_values SetFalse = false
action_takes_values Count = false
action_takes_values Help = false
action_takes_values HelpShort = false
action_takes_values HelpLong = false
action_takes_values Version = false
