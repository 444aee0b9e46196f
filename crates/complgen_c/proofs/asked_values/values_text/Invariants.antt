use Rattle.std.proofs.Common.{◌≡◌, ◌++◌, drop, string_bytes}
use Rattle.std.specs.List.{flat_map}
use Rattle.complgen_c.specs.AskedValues.{written_value}
use Rattle.complgen_c.proofs.asked_values.values_text.Given as goal

abbrev pub invariant-loop-value : goal.invariant-loop-value
invariant-loop-value l =
    string_bytes l.text ++ flat_map written_value (drop l.value-index l.values)
    ≡ flat_map written_value l.values
