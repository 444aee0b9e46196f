-- The reading of a fish script: each command whose first word is `complete` is a record.
use Rattle.std.specs.Prelude.{ℕ, List, [], ◌∷◌, ◌++◌, ◌==◌, true, false, Option, Some, None, if◌then◌else◌, codes, bytes_eq, map, option_map}
use Rattle.cc_base.specs.Bytes.{space, semicolon}
use Rattle.cc_base.specs.Found.{before_ending, pieces_from}
use Rattle.cc_quote.specs.FishTokens.{fish_commands}
use Rattle.cc_fish.specs.Records.{Condition, Record}

-- ---- the text of a condition

-- a piece without the `;` at its end
abbrev pub without_semicolon : List ℕ → List ℕ
without_semicolon [] = []
without_semicolon (byte ∷ bytes) = elim bytes [
  | [] ↦ if byte == semicolon then [] else byte ∷ []
  | _ ∷ _ ↦ byte ∷ without_semicolon bytes
]

-- the function that says whether a name was seen
abbrev pub seen_function : List ℕ
seen_function = codes "__fish_seen_subcommand_from"

-- the meaning of a piece that is not expected to be a name: `and`, `not`, the function, or another
pub data PieceSign : Type 0 where
  is_and : PieceSign
  is_not : PieceSign
  is_seen : PieceSign
  is_other : PieceSign

abbrev pub piece_sign : List ℕ → PieceSign
piece_sign piece =
    if bytes_eq piece (codes "and") then is_and else if bytes_eq piece (codes "not") then is_not
    else if bytes_eq piece seen_function then is_seen else is_other

-- what is expected next: a name of the path; `and`; after that `not` or the function; after `not`
-- the function; or nothing
pub data Expected : Type 0 where
  a_name : Expected
  an_and : Expected
  not_or_seen : Expected
  a_seen : Expected
  nothing : Expected

-- The condition of some pieces, after the part that has been read. Each name after the function is
-- the next name of the path. All names after `and not` and the function are excluded. The result is
-- `None` if a piece is not what is expected.
abbrev pub condition_from : Expected → Condition → List (List ℕ) → Option Condition
condition_from an_and when [] = Some when
condition_from nothing when [] = Some when
condition_from _ when [] = None
condition_from a_name when (piece ∷ pieces) =
    condition_from an_and (record when { path = when.path ++ piece ∷ [] }) pieces
condition_from an_and when (piece ∷ pieces) = elim (piece_sign piece) [
  | is_and ↦ condition_from not_or_seen when pieces
  | _ ↦ None
]
condition_from not_or_seen when (piece ∷ pieces) = elim (piece_sign piece) [
  | is_not ↦ condition_from a_seen when pieces
  | is_seen ↦ condition_from a_name when pieces
  | _ ↦ None
]
condition_from a_seen when (piece ∷ pieces) = elim (piece_sign piece) [
  | is_seen ↦ Some (record when { excluded = pieces })
  | _ ↦ None
]
condition_from nothing when (piece ∷ pieces) = None

-- a condition that calls a function whose name begins with the given text
abbrev pub asked : List ℕ → Condition
asked function = record { function = function; path = []; excluded = [] }

-- the condition from the first piece on: after the function of a path comes its first name, and
-- after the function of the root comes nothing
abbrev pub condition_of_pieces : List (List ℕ) → Option Condition
condition_of_pieces [] = None
condition_of_pieces (piece ∷ pieces) = elim (before_ending (codes "_using_subcommand") piece) [
  | Some function ↦ condition_from a_name (asked function) pieces
  | None ↦ elim (before_ending (codes "_needs_command") piece) [
    | Some function ↦ condition_from nothing (asked function) pieces
    | None ↦ None
  ]
]

-- the condition that the text of `-n` states
abbrev pub condition_of : List ℕ → Option Condition
condition_of text = condition_of_pieces (map without_semicolon (pieces_from space [] text))

-- ---- the words of a record

-- the words of some commands, one after another; `None` if the last command is open at its end
abbrev pub joined_words : List (Option (List (List ℕ))) → Option (List (List ℕ))
joined_words [] = Some []
joined_words (None ∷ commands) = None
joined_words (Some words ∷ commands) = option_map (λ later. words ++ later) (joined_words commands)

-- the words that the text of `-a` offers; the text is read a second time, and a line feed in it
-- separates words as a space does
abbrev pub offered_of : List ℕ → Option (List (List ℕ))
offered_of text = joined_words (fish_commands text)

-- the meaning of the word after an option of `complete`: the program, the condition, a short, a
-- long, the description, or the text that is offered
pub data Operand : Type 0 where
  command : Operand
  condition : Operand
  short_name : Operand
  long_name : Operand
  description : Operand
  offer : Operand

-- the meaning of a word of a record: an option that takes the next word, a mark, or neither
pub data OptionWord : Type 0 where
  takes : Operand → OptionWord
  marks_required : OptionWord
  marks_no_files : OptionWord
  marks_files : OptionWord
  unknown : OptionWord

abbrev pub option_word : List ℕ → OptionWord
option_word word =
    if bytes_eq word (codes "-c") then takes command
    else if bytes_eq word (codes "-n") then takes condition
    else if bytes_eq word (codes "-s") then takes short_name
    else if bytes_eq word (codes "-l") then takes long_name
    else if bytes_eq word (codes "-d") then takes description
    else if bytes_eq word (codes "-a") then takes offer
    else if bytes_eq word (codes "-r") then marks_required
    else if bytes_eq word (codes "-f") then marks_no_files
    else if bytes_eq word (codes "-F") then marks_files
    else unknown

-- a value, if none was given before
abbrev pub told_once : {X Y : Type 0} → Option X → Option Y → Option Y
told_once None now = now
told_once (Some before) now = None

-- the record with one more operand; `None` if the condition or the offered text is malformed, or if
-- the record gives twice what it may give once
abbrev pub with_operand : Operand → List ℕ → Record → Option Record
with_operand command word read = told_once read.command (Some (record read { command = Some word }))
with_operand condition word read =
    told_once read.when (option_map (λ when. record read { when = Some when }) (condition_of word))
with_operand short_name word read = Some (record read { shorts = read.shorts ++ word ∷ [] })
with_operand long_name word read = Some (record read { longs = read.longs ++ word ∷ [] })
with_operand description word read =
    told_once read.description (Some (record read { description = Some word }))
with_operand offer word read =
    told_once read.offered (option_map (λ words. record read { offered = Some words })
    (offered_of word))

-- what the next word is: an option or a mark, or an operand
pub data NextWord : Type 0 where
  an_option : NextWord
  the_operand : Operand → NextWord

-- the record that the words give, after the words read so far; `None` if a word is unknown or an
-- operand is missing
abbrev pub record_from : NextWord → Record → List (List ℕ) → Option Record
record_from an_option read [] = Some read
record_from (the_operand operand) read [] = None
record_from an_option read (word ∷ words) = elim (option_word word) [
  | takes operand ↦ record_from (the_operand operand) read words
  | marks_required ↦ record_from an_option
      (record read { marks = record read.marks { required = true } }) words
  | marks_no_files ↦ record_from an_option
      (record read { marks = record read.marks { no_files = true } }) words
  | marks_files ↦ record_from an_option
      (record read { marks = record read.marks { files = true } }) words
  | unknown ↦ None
]
record_from (the_operand operand) read (word ∷ words) = elim (with_operand operand word read) [
  | Some next ↦ record_from an_option next words
  | None ↦ None
]

-- a record without words
abbrev pub no_record : Record
no_record = record {
  command = None;
  when = None;
  shorts = [];
  longs = [];
  description = None;
  marks = record { required = false; no_files = false; files = false };
  offered = None;
}

-- ---- a script

-- the records of the commands whose first word is `complete`; `None` if one of them is malformed,
-- or if a quote or an escape is open at the end
abbrev pub records_of : List (Option (List (List ℕ))) → Option (List Record)
records_of [] = Some []
records_of (None ∷ commands) = None
records_of (Some [] ∷ commands) = records_of commands
records_of (Some (word ∷ words) ∷ commands) = elim (bytes_eq word (codes "complete")) [
  | true ↦ elim (record_from an_option no_record words) [
    | Some read ↦ option_map (λ reads. read ∷ reads) (records_of commands)
    | None ↦ None
  ]
  | false ↦ records_of commands
]

-- the records of a script
abbrev pub records : List ℕ → Option (List Record)
records script = records_of (fish_commands script)
