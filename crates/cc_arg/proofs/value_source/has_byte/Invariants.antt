use Rattle.std.proofs.Common.{◌≡◌, drop}
use Rattle.cc_arg.specs.ValueSources.{has_byte}
use Rattle.cc_arg.proofs.value_source.has_byte.Given as goal

-- none of the visited bytes is the byte
abbrev pub invariant-loop-one : goal.invariant-loop-one
invariant-loop-one l = has_byte l.byte (drop l.one-index l.text) ≡ has_byte l.byte l.text
