use Rattle.std.proofs.Common.{◌≡◌, drop, map}
use Rattle.cc_generator.specs.Subcommands.{find_path}
use Rattle.cc_generator.proofs.utils.find_subcommand_with_path.Given as goal

-- from the command found so far, the remaining words lead to where the whole path leads
abbrev pub invariant-loop-word : goal.invariant-loop-word
invariant-loop-word l = find_path l.found (map (λ word. word.now) (drop l.word-index l.path)) ≡ find_path l.command (map (λ word. word.now) l.path)
