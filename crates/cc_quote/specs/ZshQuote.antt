-- The escapes of a text between two `'` for the lists of zsh's completion, and how the backslashes
-- are removed again.
use Rattle.std.specs.Prelude.{◌≡◌, ℕ, Bool, true, false, List, [], ◌∷◌, ◌++◌, Option, Some, None, option_map, codes, ◌==◌, ◌||◌, if◌then◌else◌}
use Rattle.cc_base.specs.Bytes.{backslash, backtick, close_bracket, close_parenthesis, colon, dollar, line_feed, open_bracket, open_parenthesis, single_quote, space}
use Rattle.cc_quote.specs.Escapes.{backslashed, escaped_by}
use Rattle.cc_quote.specs.PosixQuote.{posix_word_of}
use Rattle.cc_quote.specs.declared.zsh.EscapeState.{EscapeState}
use Rattle.cc_quote.specs.declared.zsh.EscapeState.TheVariants.{Plain, Escaping}

-- ---- how backslashes are read

-- a byte that means itself, one that a backslash escapes, or a backslash at the end
pub data Mark : Type 0 where
  kept : ℕ → Mark
  escaped : ℕ → Mark
  unended : Mark

-- The marks of a text; the flag says whether a backslash that escapes comes before it. A backslash
-- escapes the next byte, whatever it is.
unfoldable pub marks_from : Bool → List ℕ → List Mark
marks_from false [] = []
marks_from true [] = unended ∷ []
marks_from true (byte ∷ bytes) = escaped byte ∷ marks_from false bytes
marks_from false (byte ∷ bytes) = elim (byte == backslash) [
  | true ↦ marks_from true bytes
  | false ↦ kept byte ∷ marks_from false bytes
]

-- the marks of a text
unfoldable pub marks : List ℕ → List Mark
marks text = marks_from false text

-- the bytes of some marks; `None` if a backslash is last
unfoldable pub unmarked : List Mark → Option (List ℕ)
unmarked [] = Some []
unmarked (unended ∷ rest) = None
unmarked (kept byte ∷ rest) = option_map (λ bytes. byte ∷ bytes) (unmarked rest)
unmarked (escaped byte ∷ rest) = option_map (λ bytes. byte ∷ bytes) (unmarked rest)

-- the text without the backslashes that escape; `None` if one of them is last
unfoldable pub zsh_unescaped : List ℕ → Option (List ℕ)
zsh_unescaped text = unmarked (marks text)

-- ---- the same by the states of a reader

-- the state after a character: a backslash escapes the next character, whatever it is
abbrev pub escape_next : EscapeState → ℕ → Option EscapeState
escape_next Plain character = Some (if character == backslash then Escaping else Plain)
escape_next Escaping character = Some Plain

-- the word with the bytes of a character added, unless it is a backslash that escapes
abbrev pub unescaped_added : EscapeState → ℕ → List ℕ → List ℕ → List ℕ
unescaped_added Plain character word bytes = if character == backslash then word else word ++ bytes
unescaped_added Escaping character word bytes = word ++ bytes

-- whether no backslash escapes the next character
abbrev pub is_plain : EscapeState → Bool
is_plain Plain = true
is_plain Escaping = false

-- ---- how a text is escaped

-- whether a byte follows a backslash in a description: one of `\ [ ] : $` and a backtick
abbrev pub is_help_marked : ℕ → Bool
is_help_marked byte =
    byte == backslash || byte == open_bracket || byte == close_bracket || byte == colon
    || byte == dollar || byte == backtick

-- whether a byte follows a backslash in a value: one of these, `(`, `)` or a space
abbrev pub is_value_marked : ℕ → Bool
is_value_marked byte =
    is_help_marked byte || byte == open_parenthesis || byte == close_parenthesis || byte == space

-- whether a byte of a value is escaped: one that follows a backslash, or `'`
abbrev pub is_value_escaped : ℕ → Bool
is_value_escaped byte = is_value_marked byte || byte == single_quote

-- whether a byte of a description is escaped: one that follows a backslash, `'` or a line feed
abbrev pub is_help_escaped : ℕ → Bool
is_help_escaped byte = is_help_marked byte || byte == single_quote || byte == line_feed

-- the replacement of a byte: `'\''` for `'`, and a backslash before any other
abbrev pub zsh_replacement : ℕ → List ℕ
zsh_replacement byte = if byte == single_quote then codes "'\\''" else backslashed byte

-- the same in a description, with a space for a line feed
abbrev pub zsh_help_replacement : ℕ → List ℕ
zsh_help_replacement byte = if byte == line_feed then codes " " else zsh_replacement byte

-- a description as it is written between two `'`
unfoldable pub zsh_escaped_help : List ℕ → List ℕ
zsh_escaped_help text = escaped_by is_help_escaped zsh_help_replacement text

-- a value as it is written between two `'`
unfoldable pub zsh_escaped_value : List ℕ → List ℕ
zsh_escaped_value text = escaped_by is_value_escaped zsh_replacement text

-- The text between two `'` is read as the text that it spells, which is the other text once the
-- backslashes are removed.
pub record ReadsUnescaped (quoted text : List ℕ) : Type 0 where
  pub between : List ℕ
  pub word : posix_word_of (codes "'" ++ quoted ++ codes "'") ≡ Some (between, [])
  pub unescaped : zsh_unescaped between ≡ Some text
