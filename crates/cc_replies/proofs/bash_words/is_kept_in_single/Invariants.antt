use Rattle.std.proofs.Common.{◌≡◌, drop, not}
use Rattle.std.specs.List.{list_all}
use Rattle.cc_replies.specs.BashWords.{is_single_lost}
use Rattle.cc_replies.proofs.bash_words.is_kept_in_single.Given as goal

abbrev pub invariant-loop-byte : goal.invariant-loop-byte
invariant-loop-byte l =
    list_all (λ byte. not (is_single_lost byte)) (drop l.byte-index l.text) ≡ list_all (λ byte. not (is_single_lost byte)) l.text
