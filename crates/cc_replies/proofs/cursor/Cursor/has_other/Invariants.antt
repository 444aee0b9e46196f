use Rattle.std.proofs.Common.{◌≡◌, Some, drop}
use Rattle.cc_replies.specs.BashList.{has_other, is_listed_word}
use Rattle.cc_replies.proofs.cursor.Cursor.has_other.Given as goal

abbrev pub invariant-loop-candidate : goal.invariant-loop-candidate
invariant-loop-candidate l =
    has_other (is_listed_word l.self) (Some l.first) (drop l.candidate-index l.candidates)
    ≡ has_other (is_listed_word l.self) (Some l.first) l.candidates
