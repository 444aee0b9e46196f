use Rattle.std.proofs.Common.{drop, flat_map}
use Rattle.cc_base.proofs.WrittenTexts.{GoesOn}
use Rattle.complgen_man.specs.Page.{further_bold}
use Rattle.complgen_man.proofs.usage.write_other_aliases.Given as goal

abbrev pub invariant-loop-alias : goal.invariant-loop-alias
invariant-loop-alias g l = GoesOn g.W.Sink.taken g.W.Sink.failed l.initial.sink l.sink (flat_map further_bold l.aliases) (flat_map further_bold (drop l.alias-index l.aliases))
