-- The values of an argument for a word: their source, the lists that it may return, and the
-- candidates that result.
use Rattle.std.specs.Prelude.{◌≡◌, ℕ, List, [], ◌++◌, map, filter, Bool, true, false, Option, Some, None, unwrap_or}
use Rattle.cc_base.specs.Sorting.{in_order}
use Rattle.cc_arg.specs.declared.parts.ArgParts.{ArgParts as Arg}
use Rattle.cc_arg.specs.declared.possible_value.PossibleValue.{PossibleValue}
use Rattle.cc_arg.specs.declared.value_hint.ValueHint.{ValueHint}
use Rattle.cc_arg.specs.declared.value_hint.ValueHint.TheVariants.{AnyPath, FilePath, DirPath, ExecutablePath}
use Rattle.cc_arg.specs.Arguments.{possible_values}
use Rattle.cc_arg.specs.Printed.{printed}
use Rattle.cc_candidates.specs.Beginning.{begins}
use Rattle.cc_candidates.specs.declared.candidate.CompletionCandidate.{CompletionCandidate}
use Rattle.cc_candidates.specs.Candidate.{comes_before, new_candidate}
use Rattle.cc_base.specs.declared.numbers.ArgValueCandidates.{ArgValueCandidates}
use Rattle.cc_base.specs.declared.numbers.ArgValueCompleter.{ArgValueCompleter}
use Rattle.cc_engine.specs.Parts.{front, part}

-- The source of a list of candidates. It is nothing; a completer, for the number of the value and a
-- text; a list; or the paths of a kind, for a text. Completers and lists are given by number.
pub data Question : Type 0 where
  nothing : Question
  completer : ℕ → ℕ → List ℕ → Question
  candidates : ℕ → Question
  paths : ValueHint → List ℕ → Question

-- the lists that each source may return
pub record MayReturn : Type 1 where
  pub completes : ℕ → ℕ → List ℕ → List CompletionCandidate → Type 0
  pub lists : ℕ → List CompletionCandidate → Type 0
  pub finds : ValueHint → List ℕ → List CompletionCandidate → Type 0

-- the lists that completers, lists and a source of paths may return
abbrev pub returned_by : {C : Type 0}
    → (C → ℕ → ℕ → List ℕ → List CompletionCandidate → Type 0)
    → (C → ℕ → List CompletionCandidate → Type 0) → C
    → (ValueHint → List ℕ → List CompletionCandidate → Type 0) → MayReturn
returned_by may_complete may_list completers Finds = record {
  completes = may_complete completers;
  lists = may_list completers;
  finds = Finds;
}

-- a list that the source may return; nothing returns no candidates
abbrev pub Allows : MayReturn → Question → List CompletionCandidate → Type 0
Allows sources nothing list = list ≡ []
Allows sources (completer which number text) list = sources.completes which number text list
Allows sources (candidates which) list = sources.lists which list
Allows sources (paths hint text) list = sources.finds hint text list

-- the values are paths
abbrev pub is_path : ValueHint → Bool
is_path AnyPath = true
is_path FilePath = true
is_path DirPath = true
is_path ExecutablePath = true
is_path _ = false

-- the source for a hint
abbrev pub question_of_hint : Bool → ValueHint → List ℕ → Question
question_of_hint true hint text = paths hint text
question_of_hint false hint text = nothing

-- The source for an argument: its completer, or else its list. Otherwise, possible values need no
-- source, and without them the hint decides.
abbrev pub question_by : Option ArgValueCompleter → Option ArgValueCandidates
    → Option (List PossibleValue) → ValueHint → ℕ → List ℕ → Question
question_by (Some which) list values hint number text = completer which.number number text
question_by None (Some which) values hint number text = candidates which.number
question_by None None (Some values) hint number text = nothing
question_by None None None hint number text = question_of_hint (is_path hint) hint text

unfoldable pub question : Arg → ℕ → List ℕ → Question
question arg number text =
    question_by arg.completer arg.candidates (possible_values arg) arg.value_hint number text

-- the candidate for a possible value
abbrev pub value_candidate : PossibleValue → CompletionCandidate
value_candidate value = record (new_candidate value.name) { help = value.help; hidden = value.hide }

-- in the order of candidates
unfoldable pub sorted : List CompletionCandidate → List CompletionCandidate
sorted = in_order comes_before

-- The candidates that result from a returned list. A completer's list stays as it is, a list and
-- the possible values are filtered by the text, and paths are sorted as one list.
abbrev pub gathered_by : Option ArgValueCompleter → Option ArgValueCandidates
    → Option (List PossibleValue) → List ℕ → List CompletionCandidate → List CompletionCandidate
gathered_by (Some which) list values text returned = returned
gathered_by None (Some which) values text returned = filter (begins text) returned
gathered_by None None (Some values) text returned =
    filter (begins text) (map value_candidate values)
gathered_by None None None text returned = sorted returned

unfoldable pub gather : Arg → List ℕ → List CompletionCandidate → List CompletionCandidate
gather arg text returned =
    gathered_by arg.completer arg.candidates (possible_values arg) text returned

-- the candidates of an argument for a text without a delimiter
abbrev pub Gathers : MayReturn → Arg → ℕ → List ℕ → List CompletionCandidate → Type 0
Gathers sources arg number text result =
    (returned : List CompletionCandidate) × Allows sources (question arg number text) returned
    × (result ≡ gather arg text returned)

-- a candidate after the earlier values of its word; its default tag is the printed form of the
-- argument
abbrev pub as_value : List ℕ → List ℕ → CompletionCandidate → CompletionCandidate
as_value before form candidate =
    record candidate {
      value = before ++ candidate.value;
      tag = Some
          (unwrap_or candidate.tag form);
    }

-- the values of an argument for a word, given the list that its source returned
unfoldable pub values : Arg → List ℕ → List CompletionCandidate → List CompletionCandidate
values arg word returned = map (as_value (front arg.value_delimiter word) (printed arg))
    (gather arg (part arg.value_delimiter word) returned)

-- the values of an argument for a word, as the value with this number
abbrev pub ArgumentValues : MayReturn → Arg → List ℕ → ℕ → List CompletionCandidate → Type 0
ArgumentValues sources arg word number result =
    (returned : List CompletionCandidate) × Allows sources
    (question arg number (part arg.value_delimiter word)) returned
    × (result ≡ values arg word returned)
