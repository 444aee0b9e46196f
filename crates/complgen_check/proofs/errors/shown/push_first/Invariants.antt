use Rattle.std.proofs.Common.{◌≡◌, ◌++◌, encode_utf8_all, map}
use Rattle.std.specs.String.{string_bytes}
use Rattle.cc_base.specs.Shown.{visible}
use Rattle.complgen_check.proofs.errors.shown.push_first.Given as goal

abbrev pub invariant-loop-character : goal.invariant-loop-character
invariant-loop-character l =
    string_bytes l.shown ≡ string_bytes l.initial.shown ++ encode_utf8_all (map visible l.yielded)
