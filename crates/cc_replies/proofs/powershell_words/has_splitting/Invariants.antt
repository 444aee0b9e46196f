use Rattle.std.proofs.Common.{◌≡◌, drop}
use Rattle.std.specs.List.{list_any}
use Rattle.cc_replies.specs.PowershellWords.{is_splitting}
use Rattle.cc_replies.proofs.powershell_words.has_splitting.Given as goal

abbrev pub invariant-loop-byte : goal.invariant-loop-byte
invariant-loop-byte l =
    list_any is_splitting (drop l.byte-index l.bytes) ≡ list_any is_splitting l.bytes
