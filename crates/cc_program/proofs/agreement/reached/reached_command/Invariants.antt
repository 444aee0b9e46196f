use Rattle.std.proofs.Common.{◌≡◌, drop, map, string_bytes}
use Rattle.cc_engine.specs.Completion.{words_before}
use Rattle.cc_program.specs.Reached.{reached}
use Rattle.cc_program.proofs.agreement.reached.reached_command.Given as goal

-- the words that remain lead from the command that is reached to the one that all words lead to
abbrev pub invariant-loop-word : goal.invariant-loop-word
invariant-loop-word l =
    reached l.reached (map string_bytes (drop l.word-index l.before))
    ≡ reached l.command (words_before l.command.node (map string_bytes l.words) l.index)
