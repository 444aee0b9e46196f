-- What a zsh script offers, according to its tokens: blocks of options, each under its path, and
-- the functions that describe children.
use Rattle.std.specs.Prelude.{ℕ, Bool, true, false, List, [], ◌∷◌, ◌++◌, ◌==◌, ◌||◌, ◌&&◌, if◌then◌else◌, Option, Some, None, option_map, is_some, bytes_eq, codes}
use Rattle.std.specs.Char.{is_ascii_alphanumeric}
use Rattle.std.specs.List.{flat_map, list_all}
use Rattle.std.specs.Option.{option_to_list}
use Rattle.cc_base.specs.Bytes.{space, open_parenthesis, close_parenthesis, star, plus, dash, colon, equals, open_bracket, backslash, close_bracket, underscore}
use Rattle.cc_base.specs.Found.{after as text_after}
use Rattle.cc_base.specs.PlainName.{is_plain_name}
use Rattle.cc_quote.specs.PosixTokens.{is_double_quote, posix_tokens}
use Rattle.cc_quote.specs.Tokens.{Piece, Token, is_word}
use Rattle.cc_quote.specs.Tokens.Piece.{bare, quoted, unclosed}
use Rattle.cc_quote.specs.ZshQuote.{Mark, marks, unmarked}
use Rattle.cc_quote.specs.ZshQuote.Mark.{kept, escaped, unended}
use Rattle.cc_zsh.specs.Functions.{Entry}

-- ---- the words of tokens

-- the text of a piece
abbrev pub piece_text : Piece → List ℕ
piece_text (bare run) = run
piece_text (quoted opening text) = text
piece_text (unclosed opening text) = text

-- the word that a token spells
unfoldable pub word_of : Token → List ℕ
word_of token = flat_map piece_text token

-- the text before the last byte, if that is the given byte
unfoldable pub text_before : ℕ → List ℕ → Option (List ℕ)
text_before last [] = None
text_before last (byte ∷ []) = if byte == last then Some [] else None
text_before last (byte ∷ next ∷ text) =
    option_map (λ before. byte ∷ before) (text_before last (next ∷ text))

-- ---- options

-- what is between an option's name and its help text: `[`, `+[` or `=[`
pub data Bracket : Type 0 where
  alone : Bracket
  after_plus : Bracket
  after_equals : Bracket

-- an option or a flag: the names that conflict with it, whether it may be used again, its name, the
-- bracket after its name, and its help text
pub record ZshOption : Type 0 where
  pub conflicts : List (List ℕ)
  pub repeated : Bool
  pub name : List ℕ
  pub bracket : Bracket
  pub help : List ℕ

-- an option without its help text so far
abbrev pub new_option : List (List ℕ) → Bool → List ℕ → Bracket → ZshOption
new_option conflicts repeated name bracket =
    record { conflicts = conflicts; repeated = repeated; name = name; bracket = bracket; help = [] }

-- an option with one more byte of its help text
abbrev pub with_help : ZshOption → ℕ → ZshOption
with_help option byte = record option { help = option.help ++ byte ∷ [] }

-- The state of the reader of a word, with what it has read: before the option; among the
-- conflicting names, of which one is open; after them; after the star; in the name; at the bracket;
-- in the help text, and after a backslash there; after the help text; or in a word that is not an
-- option.
pub data OptionState : Type 0 where
  before_option : OptionState
  in_conflicts : List (List ℕ) → List ℕ → OptionState
  after_conflicts : List (List ℕ) → OptionState
  after_star : List (List ℕ) → OptionState
  in_name : List (List ℕ) → Bool → List ℕ → OptionState
  at_bracket : List (List ℕ) → Bool → List ℕ → Bracket → OptionState
  in_help : ZshOption → OptionState
  in_help_escaped : ZshOption → OptionState
  after_help : ZshOption → OptionState
  no_option : OptionState

-- the names, including the open one unless it is empty
abbrev pub with_name : List (List ℕ) → List ℕ → List (List ℕ)
with_name names [] = names
with_name names (byte ∷ name) = names ++ (byte ∷ name) ∷ []

-- whether a byte may occur in a name: a letter, a digit, `-` or `_`
unfoldable pub is_name_byte : ℕ → Bool
is_name_byte byte =
    is_ascii_alphanumeric byte || byte == dash || byte == underscore

-- the state after a byte that does not belong to the name
unfoldable pub after_name : List (List ℕ) → Bool → List ℕ → ℕ → OptionState
after_name conflicts repeated name byte =
    if byte == open_bracket then in_help (new_option conflicts repeated name alone)
    else (if byte == plus then at_bracket conflicts repeated name after_plus
    else (if byte == equals then at_bracket conflicts repeated name after_equals
    else no_option))

-- the state after one more byte
unfoldable pub next_state : OptionState → ℕ → OptionState
next_state before_option byte =
    if byte == open_parenthesis then in_conflicts [] []
    else (if byte == star then after_star []
    else (if byte == dash then in_name [] false (byte ∷ []) else no_option))
next_state (in_conflicts names name) byte =
    if byte == close_parenthesis then after_conflicts (with_name names name)
    else (if byte == space then in_conflicts (with_name names name) []
    else in_conflicts names (name ++ byte ∷ []))
next_state (after_conflicts names) byte =
    if byte == star then after_star names
    else (if byte == dash then in_name names false (byte ∷ []) else no_option)
next_state (after_star names) byte =
    if byte == dash then in_name names true (byte ∷ []) else no_option
next_state (in_name names repeated name) byte =
    if is_name_byte byte then in_name names repeated (name ++ byte ∷ [])
    else after_name names repeated name byte
next_state (at_bracket names repeated name bracket) byte =
    if byte == open_bracket then in_help (new_option names repeated name bracket) else no_option
next_state (in_help option) byte =
    if byte == close_bracket then after_help option
    else (if byte == backslash then in_help_escaped option
    else in_help (with_help option byte))
next_state (in_help_escaped option) byte = in_help (with_help option byte)
next_state (after_help option) byte = after_help option
next_state no_option byte = no_option

-- the state after a word
unfoldable pub state_after : OptionState → List ℕ → OptionState
state_after state [] = state
state_after state (byte ∷ word) = state_after (next_state state byte) word

-- a text without the dash at its start, if there is one
abbrev pub without_dash : List ℕ → List ℕ
without_dash [] = []
without_dash (byte ∷ text) = if byte == dash then text else byte ∷ text

-- whether a text is a name as a user types it: `-` or `--`, followed by a plain name
unfoldable pub is_typed_name : List ℕ → Bool
is_typed_name [] = false
is_typed_name (byte ∷ name) = byte == dash && is_plain_name (without_dash name)

-- the option, if its name and the conflicting names are typed like this
unfoldable pub with_typed_names : ZshOption → Option ZshOption
with_typed_names option =
    if is_typed_name option.name && list_all is_typed_name option.conflicts then Some option
    else None

-- the option that has been read
unfoldable pub read_option : OptionState → Option ZshOption
read_option (after_help option) = with_typed_names option
read_option _ = None

-- the option that a word describes, if it describes one
unfoldable pub option_of : List ℕ → Option ZshOption
option_of word = read_option (state_after before_option word)

-- ---- descriptions of children

-- a word with a description
abbrev pub entry_with : List ℕ → List ℕ → Entry
entry_with word help = record { word = word; help = help }

-- a word and its description, given the text before the colon so far; the description comes after
-- the first colon that no backslash escapes
unfoldable pub entry_from : List ℕ → List Mark → Option Entry
entry_from word [] = None
entry_from word (unended ∷ rest) = None
entry_from word (escaped byte ∷ rest) = entry_from (word ++ byte ∷ []) rest
entry_from word (kept byte ∷ rest) = elim (byte == colon) [
  | true ↦ option_map (entry_with word) (unmarked rest)
  | false ↦ entry_from (word ++ byte ∷ []) rest
]

-- the word and the description in an item of a list
unfoldable pub entry_of : List ℕ → Option Entry
entry_of item = entry_from [] (marks item)

-- ---- blocks and functions

-- names that lead from the root to a node
abbrev pub Path : Type 0
Path = List (List ℕ)

-- the words between `_arguments` and `&& ret=0` at a path: the options that they describe, and the
-- first function that a word names
pub record Block : Type 0 where
  pub path : Path
  pub options : List ZshOption
  pub function : Option (List ℕ)

-- a function that describes children
pub record Description : Type 0 where
  pub label : List ℕ
  pub entries : List Entry

-- the contents of a script
pub record Parts : Type 0 where
  pub blocks : List Block
  pub descriptions : List Description

-- The state of the reader, with what it has read. In a block and around it, it holds the paths that
-- are open outside it, the innermost first.
pub data State : Type 0 where
  before_blocks : State
  in_block : List Path → List Block → Block → State
  at_ret : List Path → List Block → Block → State
  after_block : List Path → List Block → Path → State
  at_arms : List Path → List Block → Path → State
  after_line : List Path → List Block → Path → State
  between_arms : List Path → List Block → Path → State
  at_block : List Path → List Block → Path → State
  after_arms : List Path → List Block → State
  at_esac : List Path → List Block → State
  after_nested : List Path → List Block → State
  between_functions : List Block → List Description → State
  at_list : List Block → List Description → List ℕ → State
  in_list : List Block → List Description → List ℕ → List Entry → State
  malformed : State

-- a path with one more name
abbrev pub with_path : Path → List ℕ → Path
with_path path name = path ++ name ∷ []

-- a block of which nothing has been read yet
abbrev pub new_block : Path → Block
new_block path = record { path = path; options = []; function = None }

-- the word of an arm, `(word)`
unfoldable pub arm_word : Token → Option (List ℕ)
arm_word (bare run ∷ []) = elim (text_after (open_parenthesis ∷ []) run) [
  | Some rest ↦ text_before close_parenthesis rest
  | None ↦ None
]
arm_word _ = None

-- whether a token names the word that chooses an arm, `$line[..]`
unfoldable pub is_line : Token → Bool
is_line (bare run ∷ []) = is_some (text_after (codes "$line[") run)
is_line _ = false

-- the function that a token names after `:: :` between double quotes
unfoldable pub named_function : Token → Option (List ℕ)
named_function (quoted opening text ∷ []) =
    if is_double_quote opening then text_after (codes ":: :") text else None
named_function _ = None

-- the function that was named first
abbrev pub first_named : Option (List ℕ) → Option (List ℕ) → Option (List ℕ)
first_named None named = named
first_named (Some label) named = Some label

-- a block with one more word
unfoldable pub with_word : Block → Token → Block
with_word block token = record {
  path = block.path;
  options = block.options ++ option_to_list (option_of (word_of token));
  function = first_named block.function (named_function token);
}

-- the name of the function that a token begins, `name()`
unfoldable pub function_name : Token → Option (List ℕ)
function_name (bare run ∷ []) = elim (text_before close_parenthesis run) [
  | Some front ↦ text_before open_parenthesis front
  | None ↦ None
]
function_name _ = None

-- the state after a token outside the lists of functions
unfoldable pub next_function : List Block → List Description → Token → State
next_function blocks descriptions token = elim (function_name token) [
  | Some label ↦ at_list blocks descriptions label
  | None ↦ between_functions blocks descriptions
]

-- the state after a token that comes after the block of a path and everything nested in it
unfoldable pub next_arm : List Path → List Block → Token → State
next_arm [] blocks token = next_function blocks [] token
next_arm (up ∷ outer) blocks token =
    if is_word (codes ";;") token then between_arms outer blocks up else malformed

-- one more function
abbrev pub with_description : List Description → List ℕ → List Entry → List Description
with_description descriptions label entries =
    descriptions ++ record { label = label; entries = entries } ∷ []

-- the state after a token; a token that does not belong there makes the text malformed
unfoldable pub next : State → Token → State
next before_blocks token =
    if is_word (codes "_arguments") token then in_block [] [] (new_block []) else before_blocks
next (in_block outer blocks block) token =
    if is_word (codes "&&") token then at_ret outer blocks block
    else in_block outer blocks (with_word block token)
next (at_ret outer blocks block) token =
    if is_word (codes "ret=0") token then after_block outer (blocks ++ block ∷ []) block.path
    else malformed
next (after_block outer blocks path) token =
    if is_word (codes "case") token then at_arms outer blocks path
    else next_arm outer blocks token
next (at_arms outer blocks path) token =
    if is_line token then after_line outer blocks path else at_arms outer blocks path
next (after_line outer blocks path) token =
    if is_word (codes "in") token then between_arms outer blocks path
    else (if is_line token then after_line outer blocks path else at_arms outer blocks path)
next (between_arms outer blocks path) token = elim (arm_word token) [
  | Some word ↦ at_block (path ∷ outer) blocks (with_path path word)
  | None ↦ if is_word (codes "esac") token then after_arms outer blocks else malformed
]
next (at_block outer blocks path) token =
    if is_word (codes "_arguments") token then in_block outer blocks (new_block path)
    else malformed
next (after_arms outer blocks) token =
    if is_word (codes ";;") token then at_esac outer blocks else malformed
next (at_esac outer blocks) token =
    if is_word (codes "esac") token then after_nested outer blocks else malformed
next (after_nested outer blocks) token = next_arm outer blocks token
next (between_functions blocks descriptions) token = next_function blocks descriptions token
next (at_list blocks descriptions label) token =
    if is_word (codes "commands=()") token
    then between_functions blocks (with_description descriptions label [])
    else (if is_word (codes "commands=(") token then in_list blocks descriptions label []
    else at_list blocks descriptions label)
next (in_list blocks descriptions label entries) token =
    if is_word (codes ")") token
    then between_functions blocks (with_description descriptions label entries)
    else (elim (entry_of (word_of token)) [
      | Some entry ↦ in_list blocks descriptions label (entries ++ entry ∷ [])
      | None ↦ malformed
    ])
next malformed token = malformed

-- the contents, if the script ends in the given state
unfoldable pub parts_at_end : State → Option Parts
parts_at_end (between_functions blocks descriptions) =
    Some (record { blocks = blocks; descriptions = descriptions })
parts_at_end _ = None

-- the contents that the tokens give from a state on
unfoldable pub read : State → List Token → Option Parts
read state [] = parts_at_end state
read state (token ∷ tokens) = read (next state token) tokens

-- the blocks and the functions of a script
unfoldable pub zsh_parts : List ℕ → Option Parts
zsh_parts script = read before_blocks (posix_tokens script)

-- ---- what is offered at each path

-- what is offered at a path: options and flags, and the descriptions of the children
pub record Shown : Type 0 where
  pub path : Path
  pub options : List ZshOption
  pub children : List Entry

-- the descriptions of the first function with a given name
unfoldable pub labelled_entries : List ℕ → List Description → Option (List Entry)
labelled_entries label [] = None
labelled_entries label (description ∷ descriptions) =
    if bytes_eq description.label label then Some description.entries
    else labelled_entries label descriptions

-- the descriptions of the children, if a block names a function; empty if it names none
unfoldable pub children_of : List Description → Option (List ℕ) → Option (List Entry)
children_of descriptions None = Some []
children_of descriptions (Some label) = labelled_entries label descriptions

-- what is offered at a path with the given options
abbrev pub shown_with : Path → List ZshOption → List Entry → Shown
shown_with path options children =
    record { path = path; options = options; children = children }

-- what is offered at the path of a block; `None` if the function that it names is missing
unfoldable pub shown_of : List Description → Block → Option Shown
shown_of descriptions block =
    option_map (shown_with block.path block.options) (children_of descriptions block.function)

abbrev pub with_shown : Option Shown → Option (List Shown) → Option (List Shown)
with_shown (Some shown) (Some more) = Some (shown ∷ more)
with_shown shown more = None

-- the same for all blocks
unfoldable pub all_shown : List Description → List Block → Option (List Shown)
all_shown descriptions [] = Some []
all_shown descriptions (block ∷ blocks) =
    with_shown (shown_of descriptions block) (all_shown descriptions blocks)

-- what a script offers, path by path
unfoldable pub zsh_shown : List ℕ → Option (List Shown)
zsh_shown script = elim (zsh_parts script) [
  | Some parts ↦ all_shown parts.descriptions parts.blocks
  | None ↦ None
]
