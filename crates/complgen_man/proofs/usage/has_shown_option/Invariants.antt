use Rattle.std.proofs.Common.{◌≡◌, drop}
use Rattle.std.specs.List.{list_any}
use Rattle.complgen_man.specs.Page.{is_shown_option}
use Rattle.complgen_man.proofs.usage.has_shown_option.Given as goal

-- none of the visited arguments is shown
abbrev pub invariant-loop-argument : goal.invariant-loop-argument
invariant-loop-argument l = list_any is_shown_option (drop l.argument-index l.arguments) ≡ list_any is_shown_option l.arguments
