-- Candidates that begin with a text.
use Rattle.std.specs.Prelude.{ℕ, List, Bool, nat_eq}
use Rattle.std.specs.List.{starts_with}
use Rattle.cc_candidates.specs.declared.candidate.CompletionCandidate.{CompletionCandidate}

-- the value begins with the text
abbrev pub begins : List ℕ → CompletionCandidate → Bool
begins text candidate = starts_with nat_eq candidate.value text
