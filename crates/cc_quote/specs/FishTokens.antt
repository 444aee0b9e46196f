-- The commands into which a fish script is cut. Each is the list of the words that it spells, or
-- `None` for a last one with an open quote or escape at its end.
use Rattle.std.specs.Prelude.{ℕ, List, [], ◌∷◌, ◌++◌, Option, Some, None}
use Rattle.cc_quote.specs.FishQuote.{fish_sign, FishState, bare, next_state, spelled}
use Rattle.cc_quote.specs.FishQuote.FishSign.{blank, line_feed, hash}
use Rattle.cc_quote.specs.FishQuote.FishState.{at}
use Rattle.cc_quote.specs.declared.fish_reader.QuoteState.TheVariants.{Bare}

-- the state of the cutting, with the words of the command so far: before a word, in a comment,
-- which ends at the end of the line, or in a word
pub data CommandState : Type 0 where
  between : List (List ℕ) → CommandState
  comment : List (List ℕ) → CommandState
  in_word : List (List ℕ) → FishState → CommandState

-- the commands from a state on; a line feed outside quotes ends a command
abbrev pub commands_from : CommandState → List ℕ → List (Option (List (List ℕ)))
commands_from (between words) [] = Some words ∷ []
commands_from (comment words) [] = Some words ∷ []
commands_from (in_word words (at Bare word)) [] = Some (words ++ word ∷ []) ∷ []
commands_from (in_word words _) [] = None ∷ []
commands_from (between words) (byte ∷ bytes) = elim (fish_sign byte) [
  | blank ↦ commands_from (between words) bytes
  | line_feed ↦ Some words ∷ commands_from (between []) bytes
  | hash ↦ commands_from (comment words) bytes
  | _ ↦ elim (next_state (bare []) byte) [
    | Some state ↦ commands_from (in_word words state) bytes
    | None ↦ None ∷ []
  ]
]
commands_from (comment words) (byte ∷ bytes) = elim (fish_sign byte) [
  | line_feed ↦ Some words ∷ commands_from (between []) bytes
  | _ ↦ commands_from (comment words) bytes
]
commands_from (in_word words state) (byte ∷ bytes) = elim (next_state state byte) [
  | Some next ↦ commands_from (in_word words next) bytes
  | None ↦ elim (fish_sign byte) [
    | line_feed ↦ Some (words ++ spelled state ∷ []) ∷ commands_from (between []) bytes
    | _ ↦ commands_from (between (words ++ spelled state ∷ [])) bytes
  ]
]

-- the commands of a script
unfoldable pub fish_commands : List ℕ → List (Option (List (List ℕ)))
fish_commands script = commands_from (between []) script
