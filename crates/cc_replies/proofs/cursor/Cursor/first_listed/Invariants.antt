use Rattle.std.proofs.Common.{◌≡◌, drop, find}
use Rattle.cc_replies.specs.BashList.{is_listed_word}
use Rattle.cc_replies.proofs.cursor.Cursor.first_listed.Given as goal

abbrev pub invariant-loop-candidate : goal.invariant-loop-candidate
invariant-loop-candidate l =
    find (λ candidate. is_listed_word l.self candidate.value) (drop l.candidate-index l.candidates)
    ≡ find (λ candidate. is_listed_word l.self candidate.value) l.candidates
