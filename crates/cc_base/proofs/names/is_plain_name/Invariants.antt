use Rattle.std.proofs.Common.{◌≡◌, drop}
use Rattle.cc_base.specs.PlainName.{is_plain_name}
use Rattle.cc_base.proofs.PlainNames.{plain_after}
use Rattle.cc_base.proofs.names.is_plain_name.Given as goal

-- whether the name is plain now depends on the bytes that remain
abbrev pub invariant-loop-byte : goal.invariant-loop-byte
invariant-loop-byte l = plain_after l.after_letter (drop l.byte-index l.byte-items) ≡ is_plain_name l.name
