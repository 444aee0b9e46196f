use Rattle.std.proofs.Common.{◌≡◌, drop}
use Rattle.std.specs.List.{list_all}
use Rattle.std.specs.Char.{is_ascii_alphanumeric}
use Rattle.cc_command.proofs.command.plain.are_alphanumeric.Given as goal

-- the visited shorts are letters or digits
abbrev pub invariant-loop-short : goal.invariant-loop-short
invariant-loop-short l = list_all is_ascii_alphanumeric (drop l.short-index l.shorts) ≡ list_all is_ascii_alphanumeric l.shorts
