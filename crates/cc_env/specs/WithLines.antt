-- Completers and lists with one list more: the candidates in given lines.
use Rattle.std.specs.Prelude.{◌≡◌, ◌==◌, ℕ, Bool, true, false, List, [], Option, Some, None}
use Rattle.cc_arg.specs.declared.parts.ArgParts.{ArgParts as Arg}
use Rattle.cc_base.specs.declared.numbers.ArgValueCandidates.{ArgValueCandidates}
use Rattle.cc_candidates.specs.declared.candidate.CompletionCandidate.{CompletionCandidate}
use Rattle.cc_engine.specs.Values.{MayReturn}

-- the list of the lines: the greatest number of a list
abbrev pub lines_list : ArgValueCandidates
lines_list = record { number = 18446744073709551615 }

-- the candidates in the lines, if the test holds, and otherwise those that may be returned
abbrev pub lists_when : Bool → List CompletionCandidate → (List CompletionCandidate → Type 0)
    → List CompletionCandidate → Type 0
lists_when true given MayBe found = found ≡ given
lists_when false given MayBe found = MayBe found

-- the lists, with this one for the candidates in the lines
abbrev pub lists_with : (ℕ → List CompletionCandidate → Type 0) → List CompletionCandidate
    → ℕ → List CompletionCandidate → Type 0
lists_with may_list given which found =
    lists_when (which == lines_list.number) given (may_list which) found

-- the possible results, with that list
abbrev pub with_lines : MayReturn → List CompletionCandidate → MayReturn
with_lines returned given = record {
  completes = returned.completes;
  lists = lists_with returned.lists given;
  finds = returned.finds;
}

-- the output of a command, for an argument that has one
abbrev pub lines_when : Option (List (List ℕ)) → List ℕ → List ℕ
lines_when None output = []
lines_when (Some command) output = output

abbrev pub passed_lines : List ℕ → Arg → List ℕ
passed_lines output asked = lines_when asked.values_from output
