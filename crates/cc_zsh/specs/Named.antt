-- The meaning of a command with its full name.
use Rattle.cc_zsh.specs.Functions.{Function, entries_of}
use Rattle.cc_zsh.specs.declared.functions.Named.{Named}

-- the function of the command
abbrev pub function_named : Named → Function
function_named named =
    record { name = named.name.now; entries = entries_of named.command.now.children }
