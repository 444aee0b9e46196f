use Rattle.std.proofs.Common.{◌≡◌, drop}
use Rattle.std.specs.List.{list_all}
use Rattle.cc_command.specs.Plain.{has_no_quote}
use Rattle.cc_command.proofs.command.plain.have_no_quote.Given as goal

-- the visited texts contain no quote
abbrev pub invariant-loop-text : goal.invariant-loop-text
invariant-loop-text l = list_all has_no_quote (drop l.text-index l.texts) ≡ list_all has_no_quote l.texts
