use Rattle.std.proofs.Common.{◌≡◌, ◌≤◌, ◌++◌, ◌||◌, length, true}
use Rattle.cc_base.specs.Joined.{has_texts}
use Rattle.cc_command.specs.Iterators.{names_left}
use Rattle.cc_command.specs.Names.{visible_names}
use Rattle.cc_bash.specs.Words.{words_after}
use Rattle.cc_bash.proofs.words.write_names.Given as goal

-- the bytes taken and the remaining names make up the whole; no put failed
abbrev pub invariant-loop-name : goal.invariant-loop-name
invariant-loop-name g l = record {
  written : g.W.Sink.taken l.sink ++ words_after l.begun (names_left l.name-iterator)
      ≡ g.W.Sink.taken l.initial.sink ++ words_after l.initial.begun (visible_names l.command.node);
  least : length (g.W.Sink.taken l.initial.sink) ≤ length (g.W.Sink.taken l.sink);
  begun : (l.begun || has_texts (names_left l.name-iterator)) ≡ true;
  failures : g.W.Sink.failed l.sink ≡ g.W.Sink.failed l.initial.sink;
}
