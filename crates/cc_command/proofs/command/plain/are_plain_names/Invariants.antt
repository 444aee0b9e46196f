use Rattle.std.proofs.Common.{◌≡◌, drop}
use Rattle.std.specs.List.{list_all}
use Rattle.cc_base.specs.PlainName.{is_plain_name}
use Rattle.cc_command.proofs.command.plain.are_plain_names.Given as goal

-- the visited names are plain
abbrev pub invariant-loop-name : goal.invariant-loop-name
invariant-loop-name l = list_all is_plain_name (drop l.name-index l.names) ≡ list_all is_plain_name l.names
