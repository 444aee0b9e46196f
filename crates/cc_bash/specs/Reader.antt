-- The case table and the arms in a bash script.
use Rattle.std.specs.Prelude.{ℕ, Bool, true, false, List, [], ◌∷◌, ◌++◌, ◌==◌, ◌&&◌, if◌then◌else◌, Option, Some, None, bytes_eq, codes, option_map}
use Rattle.cc_base.specs.Bytes.{space, close_parenthesis, comma}
use Rattle.cc_quote.specs.PosixTokens.{posix_tokens, is_double_quote}
use Rattle.cc_quote.specs.Tokens.{Token, is_word}
use Rattle.cc_quote.specs.Tokens.Piece.{bare, quoted}
use Rattle.cc_bash.specs.CaseTable.{Case}
use Rattle.cc_bash.specs.Arms.{values, files, typed, nothing, Mode, filenames, plusdirs, nospace, Detail, Arm}

-- the text before the first occurrence of a byte, and the text after it
abbrev pub parted : ℕ → List ℕ → Option (List ℕ × List ℕ)
parted byte [] = None
parted byte (b ∷ text) =
    if b == byte then Some ([], text)
    else option_map (λ parts. (b ∷ parts.0, parts.1)) (parted byte text)

-- the words of a text, cut at spaces; the first word continues `run`
abbrev pub words_from : List ℕ → List ℕ → List (List ℕ)
words_from [] [] = []
words_from (r ∷ run) [] = (r ∷ run) ∷ []
words_from [] (b ∷ text) =
    elim (b == space) [ true ↦ words_from [] text | false ↦ words_from (b ∷ []) text ]
words_from (r ∷ run) (b ∷ text) = elim (b == space) [
  | true ↦ (r ∷ run) ∷ words_from [] text
  | false ↦ words_from ((r ∷ run) ++ b ∷ []) text
]

-- what a script holds: the root's label, the cases, and the arms
pub record Table : Type 0 where
  pub root : List ℕ
  pub cases : List Case
  pub arms : List Arm

-- the state of the reader, with what it has read
pub data State : Type 0 where
  begins : State
  at_case : State
  at_root : State
  at_root_label : State
  after_root_label : List ℕ → State
  between_cases : Table → State
  at_label : Table → List ℕ → State
  after_label : Table → Case → State
  after_cases : Table → State
  at_arms : Table → State
  between_arms : Table → State
  at_words : Table → Arm → State
  after_words : Table → Arm → State
  at_level : Table → Arm → State
  after_level : Table → Arm → State
  at_details : Table → Arm → State
  between_details : Table → Arm → State
  in_default : Table → Arm → State
  at_reply : Table → Arm → Detail → State
  at_compgen : Table → Arm → Detail → State
  at_values : Table → Arm → Detail → State
  after_reply : Table → Arm → Detail → State
  at_compopt : Table → Arm → Detail → State
  at_mode : Table → Arm → Detail → State
  after_details : Table → Arm → State
  finished : Table → State
  malformed : State

-- the text before the `)` that ends a pattern
unfoldable pub pattern_of : Token → Option (List ℕ)
pattern_of (bare run ∷ []) = elim (parted close_parenthesis run) [
  | Some parts ↦ (elim parts.1 as (λ rest. Option (List ℕ)) [ [] ↦ Some parts.0 | _ ∷ _ ↦ None ])
  | None ↦ None
]
pattern_of _ = None

-- the text between double quotes after the given bare word
unfoldable pub assigned : List ℕ → Token → Option (List ℕ)
assigned name (bare run ∷ quoted opening text ∷ []) =
    if bytes_eq run name && is_double_quote opening then Some text else None
assigned name _ = None

-- the text of a token that is one bare word
unfoldable pub bare_text : Token → Option (List ℕ)
bare_text (bare run ∷ []) = Some run
bare_text _ = None

-- the text of a token that is one text between double quotes
unfoldable pub double_text : Token → Option (List ℕ)
double_text (quoted opening text ∷ []) = if is_double_quote opening then Some text else None
double_text _ = None

-- whether a token is the pattern of the root's arm
unfoldable pub is_root : Token → Bool
is_root (quoted opening text ∷ bare run ∷ []) =
    is_double_quote opening && (bytes_eq text (codes ",$1") && bytes_eq run (codes ")"))
is_root _ = false

-- whether a token offers nothing
unfoldable pub is_empty_reply : Token → Bool
is_empty_reply token = is_word (codes "COMPREPLY=()") token

-- whether a token offers the word as it is typed
unfoldable pub is_typed_reply : Token → Bool
is_typed_reply (bare run ∷ quoted opening text ∷ bare end ∷ []) =
    bytes_eq run (codes "COMPREPLY=(")
    && (is_double_quote opening && (bytes_eq text (codes "${cur}") && bytes_eq end (codes ")")))
is_typed_reply _ = false

-- whether a token offers what `compgen` returns
unfoldable pub is_compgen_reply : Token → Bool
is_compgen_reply token = is_word (codes "COMPREPLY=($(compgen") token

-- the mode that a word names
unfoldable pub mode_named : List ℕ → Option Mode
mode_named word =
    if bytes_eq word (codes "filenames") then Some filenames
    else (if bytes_eq word (codes "plusdirs") then Some plusdirs
    else (if bytes_eq word (codes "nospace") then Some nospace else None))

-- a case whose pattern is cut at its first comma
unfoldable pub case_by : List ℕ → List ℕ → Option Case
case_by pattern label =
    option_map (λ parts. let c : Case = record { from = parts.0; word = parts.1; to = label } in c)
    (parted comma pattern)

-- one more case, arm or detail
abbrev pub with_case : Table → Case → Table
with_case table c = record table { cases = table.cases ++ c ∷ [] }

abbrev pub with_arm : Table → Arm → Table
with_arm table arm = record table { arms = table.arms ++ arm ∷ [] }

abbrev pub with_detail : Arm → Detail → Arm
with_detail arm detail = record arm { details = arm.details ++ detail ∷ [] }

-- an arm of which only the label has been read, and a detail of which only the word has been read
abbrev pub new_arm : List ℕ → Arm
new_arm label = record { label = label; level = []; words = []; details = [] }

abbrev pub new_detail : List ℕ → Detail
new_detail word = record { word = word; offered = nothing; mode = None }

-- The state after a token. A token that does not belong there makes the text malformed. If `whole`
-- is true, the arms are read too; otherwise the reader stops at the first `esac`.
unfoldable pub next : Bool → State → Token → State
next whole begins token = if is_word (codes "case") token then at_case else begins
next whole at_case token = if is_word (codes "in") token then at_root else at_case
next whole at_root token = if is_root token then at_root_label else malformed
next whole at_root_label token = elim (assigned (codes "cmd=") token) [
  | Some label ↦ after_root_label label
  | None ↦ malformed
]
next whole (after_root_label label) token =
    if is_word (codes ";;") token
    then between_cases (record { root = label; cases = []; arms = [] })
    else malformed
next whole (between_cases table) token = elim (pattern_of token) [
  | Some pattern ↦ at_label table pattern
  | None ↦ if is_word (codes "esac") token then after_cases table else malformed
]
next whole (at_label table pattern) token = elim (assigned (codes "cmd=") token) [
  | Some label ↦ (elim (case_by pattern label) [
    | Some c ↦ after_label table c
    | None ↦ malformed
  ])
  | None ↦ if is_word (codes ";;") token then between_cases table else malformed
]
next whole (after_label table c) token =
    if is_word (codes ";;") token then between_cases (with_case table c) else malformed
next whole (after_cases table) token =
    if whole && is_word (codes "case") token then at_arms table else after_cases table
next whole (at_arms table) token =
    if is_word (codes "in") token then between_arms table else at_arms table
next whole (between_arms table) token = elim (pattern_of token) [
  | Some label ↦ at_words table (new_arm label)
  | None ↦ if is_word (codes "esac") token then finished table else malformed
]
next whole (at_words table arm) token = elim (assigned (codes "opts=") token) [
  | Some text ↦ after_words table (record arm { words = words_from [] text })
  | None ↦ malformed
]
next whole (after_words table arm) token =
    if is_word (codes "-eq") token then at_level table arm else after_words table arm
next whole (at_level table arm) token = elim (bare_text token) [
  | Some digits ↦ after_level table (record arm { level = digits })
  | None ↦ malformed
]
next whole (after_level table arm) token =
    if is_word (codes "case") token then at_details table arm else after_level table arm
next whole (at_details table arm) token =
    if is_word (codes "in") token then between_details table arm else at_details table arm
next whole (between_details table arm) token = elim (pattern_of token) [
  | Some word ↦
      if bytes_eq word (codes "*") then in_default table arm
      else at_reply table arm (new_detail word)
  | None ↦ if is_word (codes "esac") token then after_details table arm else malformed
]
next whole (in_default table arm) token =
    if is_word (codes ";;") token then between_details table arm else in_default table arm
next whole (at_reply table arm detail) token =
    if is_empty_reply token then after_reply table arm detail
    else (if is_typed_reply token then after_reply table arm (record detail { offered = typed })
    else (if is_compgen_reply token then at_compgen table arm detail
    else at_reply table arm detail))
next whole (at_compgen table arm detail) token =
    if is_word (codes "-W") token then at_values table arm detail
    else (if is_word (codes "-f") token
    then after_reply table arm (record detail { offered = files }) else malformed)
next whole (at_values table arm detail) token = elim (double_text token) [
  | Some text ↦ after_reply table arm (record detail { offered = values (words_from [] text) })
  | None ↦ malformed
]
next whole (after_reply table arm detail) token =
    if is_word (codes "compopt") token then at_compopt table arm detail
    else (if is_word (codes ";;") token then between_details table (with_detail arm detail)
    else after_reply table arm detail)
next whole (at_compopt table arm detail) token =
    if is_word (codes "-o") token then at_mode table arm detail else malformed
next whole (at_mode table arm detail) token = elim (bare_text token) [
  | Some word ↦ (elim (mode_named word) [
    | Some mode ↦ after_reply table arm (record detail { mode = Some mode })
    | None ↦ malformed
  ])
  | None ↦ malformed
]
next whole (after_details table arm) token =
    if is_word (codes ";;") token then between_arms (with_arm table arm)
    else after_details table arm
next whole (finished table) token = finished table
next whole malformed token = malformed

-- the table of a state at which it is closed; without the arms, the first `esac` closes it
unfoldable pub closed_table : Bool → State → Option Table
closed_table true (finished table) = Some table
closed_table false (after_cases table) = Some table
closed_table _ _ = None

-- the table that tokens give from a state on
unfoldable pub read : Bool → State → List Token → Option Table
read whole state [] = closed_table whole state
read whole state (token ∷ tokens) = read whole (next whole state token) tokens

-- the root's label and the cases of a script, without the arms
unfoldable pub bash_cases : List ℕ → Option Table
bash_cases script = read false begins (posix_tokens script)

-- the root's label, the cases and the arms of a script
unfoldable pub bash_table : List ℕ → Option Table
bash_table script = read true begins (posix_tokens script)
