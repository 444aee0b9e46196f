use Rattle.std.proofs.Common.{◌≡◌, drop}
use Rattle.std.specs.List.{list_all}
use Rattle.cc_quote.specs.PosixQuote.{is_posix_safe}
use Rattle.cc_quote.proofs.posix.are_safe.Given as goal

abbrev pub invariant-loop-byte : goal.invariant-loop-byte
invariant-loop-byte l =
    list_all is_posix_safe (drop l.byte-index l.bytes) ≡ list_all is_posix_safe l.bytes
