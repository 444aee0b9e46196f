use Rattle.std.proofs.Common.{◌≡◌, drop}
use Rattle.cc_command.specs.Names.{contains_name}
use Rattle.cc_command.proofs.command.getters.contains_name.Given as goal

-- none of the visited names is the word
abbrev pub invariant-loop-name : goal.invariant-loop-name
invariant-loop-name l = contains_name (drop l.name-index l.names) l.word ≡ contains_name l.names l.word
