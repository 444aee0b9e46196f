use Rattle.std.proofs.Common.{◌≡◌, drop}
use Rattle.std.specs.List.{list_any}
use Rattle.complgen_man.specs.Page.{is_shown_value}
use Rattle.complgen_man.proofs.arguments.has_shown_value.Given as goal

-- none of the visited values is shown
abbrev pub invariant-loop-value : goal.invariant-loop-value
invariant-loop-value l = list_any is_shown_value (drop l.value-index l.values) ≡ list_any is_shown_value l.values
