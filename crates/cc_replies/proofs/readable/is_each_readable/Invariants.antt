use Rattle.std.proofs.Common.{◌≡◌, drop}
use Rattle.std.specs.List.{list_all}
use Rattle.cc_replies.specs.Reply.{is_readable_zsh_item, shown}
use Rattle.cc_replies.proofs.readable.is_each_readable.Given as goal

abbrev pub invariant-loop-candidate : goal.invariant-loop-candidate
invariant-loop-candidate l =
    list_all (λ candidate. is_readable_zsh_item l.separator (shown candidate)) (drop l.candidate-index l.candidates)
    ≡ list_all (λ candidate. is_readable_zsh_item l.separator (shown candidate)) l.candidates
