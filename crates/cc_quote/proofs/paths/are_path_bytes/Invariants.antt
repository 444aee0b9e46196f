use Rattle.std.proofs.Common.{◌≡◌, drop}
use Rattle.std.specs.List.{list_all}
use Rattle.cc_quote.specs.PlainPath.{is_path_byte}
use Rattle.cc_quote.proofs.paths.are_path_bytes.Given as goal

abbrev pub invariant-loop-byte : goal.invariant-loop-byte
invariant-loop-byte l =
    list_all is_path_byte (drop l.byte-index l.bytes) ≡ list_all is_path_byte l.bytes
