-- The candidates for the name of a tool, in a program that knows the names.
use Rattle.std.specs.Prelude.{◌≡◌, ℕ, ◌==◌, List, [], ◌∷◌, Bool, true, false, not, Some, codes}
use Rattle.std.specs.Prelude.{filter, map, nat_eq}
use Rattle.std.specs.List.{starts_with}
use Rattle.clap_complete.specs.cc_arg.Arguments.{new_arg}
use Rattle.clap_complete.specs.cc_base.declared.numbers.ArgValueCompleter.{ArgValueCompleter}
use Rattle.clap_complete.specs.cc_candidates.Candidate.{new_candidate}
use Rattle.clap_complete.specs.cc_candidates.declared.candidate.CompletionCandidate.{CompletionCandidate}
use Rattle.clap_complete.specs.cc_command.Made.{new_tree, with_argument}
use Rattle.clap_complete.specs.cc_command.Tree.{Tree}

-- the names that begin with the text, in their order
abbrev pub names_beginning : List (List ℕ) → List ℕ → List (List ℕ)
names_beginning names text = filter (λ name. starts_with nat_eq name text) names

-- `run` with an argument `tool`, whose values this completer returns
abbrev pub runner : ArgValueCompleter → Tree
runner completer =
    let made = new_tree (codes "run") in
    let tool = record (new_arg (codes "tool")) { completer = Some completer } in
    record made { node = with_argument made.node tool }

-- a name as a value of the argument
abbrev pub tool_candidate : List ℕ → CompletionCandidate
tool_candidate name = record (new_candidate name) { tag = Some (codes "[tool]") }

-- the word is not empty and does not begin with a hyphen, so no option begins with it
abbrev pub is_bare : List ℕ → Bool
is_bare [] = false
is_bare (byte ∷ bytes) = not (byte == 45)

-- for such a word, the candidates are exactly the names that begin with it, in their order
abbrev pub OffersTools : List (List ℕ) → List ℕ → List CompletionCandidate → Type 0
OffersTools names word found =
    is_bare word ≡ true → found ≡ map tool_candidate (names_beginning names word)
