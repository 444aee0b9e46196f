-- The lines that a Cobra program answers to a request for completions: values, and at the end a
-- directive, whose bits say what is offered.
use Rattle.std.specs.Prelude.{ℕ, Bool, false, not, ◌&&◌, ◌==◌, List, [], ◌∷◌, Option, Some, None, bit_and, codes, filter, if◌then◌else◌, length, map, nat_eq, reverse}
use Rattle.std.specs.List.{starts_with}
use Rattle.std.specs.Option.{option_and_then}
use Rattle.cc_base.specs.Bytes.{colon}
use Rattle.cc_base.specs.Found.{after}
use Rattle.cc_candidates.specs.declared.candidate.CompletionCandidate.{CompletionCandidate}
use Rattle.cc_replies.specs.Environment.{short_number}
use Rattle.cc_replies.specs.GivenLines.{Entry, candidates_of_lines, entry_candidate, first_of_values, given_entries}
pub use Rattle.cc_replies.specs.declared.cobra_reply.CobraReply.{CobraReply}
pub use Rattle.cc_replies.specs.declared.cobra_reply.PathKind.{PathKind}
pub use Rattle.cc_replies.specs.declared.cobra_reply.PathKind.TheVariants.{Any, Files, Directories}

-- ---- the lines

-- the number of a directive: a line of a colon, one to five digits, and nothing else
unfoldable pub directive_of : Entry → Option ℕ
directive_of line = if length line.description == 0
    then option_and_then short_number (after (colon ∷ []) line.value) else None

-- a line of help for the user
abbrev pub is_active_help : Entry → Bool
is_active_help line = starts_with nat_eq line.value (codes "_activeHelp_ ")

-- the candidates in the lines before a directive
abbrev pub cobra_values : List Entry → List CompletionCandidate
cobra_values lines = map entry_candidate
    (first_of_values (filter (λ line. not (is_active_help line)) lines))

-- ---- the bits of a directive

-- something went wrong
abbrev pub error_bit : ℕ
error_bit = 1

-- no space follows a value
abbrev pub no_space_bit : ℕ
no_space_bit = 2

-- without a value, no paths take its place
abbrev pub no_paths_bit : ℕ
no_paths_bit = 4

-- the values are file extensions
abbrev pub extensions_bit : ℕ
extensions_bit = 8

-- only directories are wanted, and a value is the directory to look in
abbrev pub directories_bit : ℕ
directories_bit = 16

abbrev pub has_bit : ℕ → ℕ → Bool
has_bit directive bit = not (bit_and directive bit == 0)

-- the values are offered
abbrev pub offers_values : ℕ → Bool
offers_values directive = not (has_bit directive error_bit)
    && not (has_bit directive extensions_bit) && not (has_bit directive directories_bit)

-- the paths that are offered, where `none` says that there is no value
abbrev pub offered_paths : ℕ → Bool → Option PathKind
offered_paths directive none =
    if has_bit directive error_bit then None
    else if has_bit directive extensions_bit then Some Files
    else if has_bit directive directories_bit then Some Directories
    else if none && not (has_bit directive no_paths_bit) then Some Any
    else None

-- ---- the reply

-- the reply under a directive
abbrev pub directed : ℕ → List CompletionCandidate → CobraReply
directed directive values = record {
  values = record { candidates = if offers_values directive then values else [] };
  paths = offered_paths directive (length values == 0);
  no_space = has_bit directive no_space_bit && not (has_bit directive error_bit);
}

-- without a directive, the lines are given lines
abbrev pub undirected : List ℕ → CobraReply
undirected text = record {
  values = record { candidates = candidates_of_lines None text };
  paths = None;
  no_space = false;
}

-- the reply of a text with these lines, the last one first
abbrev pub reply_from : List ℕ → List Entry → CobraReply
reply_from text [] = undirected text
reply_from text (last ∷ earlier) = elim (directive_of last) [
  | Some directive ↦ directed directive (cobra_values (reverse earlier))
  | None ↦ undirected text
]

-- what a text offers, by its lines that count as given lines; the last of these may be a directive
abbrev pub cobra_reply : List ℕ → CobraReply
cobra_reply text = reply_from text (reverse (given_entries None text))
