use Rattle.std.proofs.Common.{◌≡◌, drop}
use Rattle.std.specs.List.{list_all}
use Rattle.cc_command.specs.Quiet.{is_quiet_byte}
use Rattle.cc_command.proofs.command.quiet.are_quiet_bytes.Given as goal

-- the visited bytes are quiet
abbrev pub invariant-loop-byte : goal.invariant-loop-byte
invariant-loop-byte l = list_all is_quiet_byte (drop l.byte-index l.bytes) ≡ list_all is_quiet_byte l.bytes
