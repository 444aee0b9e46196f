use Rattle.std.proofs.Common.{◌≡◌, drop}
use Rattle.std.specs.List.{list_any}
use Rattle.complgen_man.specs.Page.{is_shown_argument}
use Rattle.complgen_man.proofs.page.has_shown_argument.Given as goal

-- none of the visited arguments is shown
abbrev pub invariant-loop-argument : goal.invariant-loop-argument
invariant-loop-argument l = list_any is_shown_argument (drop l.argument-index l.arguments) ≡ list_any is_shown_argument l.arguments
