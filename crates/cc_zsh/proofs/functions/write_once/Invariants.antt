use Rattle.std.proofs.Common.{None, drop, flat_map, map}
use Rattle.std.specs.Option.{option_copied}
use Rattle.cc_base.proofs.WrittenTexts.{GoesOn}
use Rattle.cc_zsh.specs.Functions.{function_text, once_after}
use Rattle.cc_zsh.specs.Named.{function_named}
use Rattle.cc_zsh.proofs.functions.write_once.Given as goal

abbrev pub invariant-loop-command : goal.invariant-loop-command
invariant-loop-command g l = GoesOn g.W.Sink.taken g.W.Sink.failed l.initial.sink l.sink (flat_map function_text (once_after None (map function_named l.commands))) (flat_map function_text (once_after (option_copied l.last) (map function_named (drop l.command-index l.commands))))
