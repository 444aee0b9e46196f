use Rattle.std.proofs.Common.{◌≡◌, drop}
use Rattle.std.specs.List.{list_all}
use Rattle.cc_replies.specs.PowershellWords.{is_powershell_byte}
use Rattle.cc_replies.proofs.powershell_words.are_powershell_bytes.Given as goal

abbrev pub invariant-loop-byte : goal.invariant-loop-byte
invariant-loop-byte l =
    list_all is_powershell_byte (drop l.byte-index l.bytes) ≡ list_all is_powershell_byte l.bytes
