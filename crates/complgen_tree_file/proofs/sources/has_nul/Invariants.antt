use Rattle.std.proofs.Common.{◌≡◌, drop}
use Rattle.cc_arg.specs.ValueSources.{has_byte, nul}
use Rattle.complgen_tree_file.proofs.sources.has_nul.Given as goal

abbrev pub invariant-loop-byte : goal.invariant-loop-byte
invariant-loop-byte l = has_byte nul (drop l.byte-index l.bytes) ≡ has_byte nul l.bytes
