-- The replies to shells that quote what they insert: lines without anything that the shell would
-- interpret.
use Rattle.std.specs.Prelude.{◌≡◌, ℕ, Bool, true, false, not, ◌&&◌, ◌||◌, ◌==◌, if◌then◌else◌, List, [], ◌∷◌, ◌++◌, Option, Some, None, codes, filter, flat_map, map}
use Rattle.std.specs.Int.{is_in_range}
use Rattle.std.specs.Option.{option_and_then}
use Rattle.cc_candidates.specs.declared.candidate.CompletionCandidate.{CompletionCandidate}
use Rattle.cc_quote.specs.ZshQuote.{marks}
use Rattle.cc_replies.specs.Reply.{Shown, line_shown, lines_from, shown_from, shown_line, zsh_item}
use Rattle.cc_replies.specs.SafeValues.{is_found, is_in_locale, is_safe_text, safe_shown}

-- ---- Elvish: values

abbrev pub value_line : CompletionCandidate → List ℕ
value_line candidate = candidate.value ++ codes "\n"

abbrev pub safe_values_reply : List CompletionCandidate → List ℕ
safe_values_reply candidates =
    flat_map value_line (filter (λ candidate. is_safe_text candidate.value) candidates)

-- its lines are the values that have a byte and no control character
unfoldable pub SafeValuesRead : List CompletionCandidate → Type 0
SafeValuesRead candidates =
    lines_from [] (safe_values_reply candidates)
    ≡ map (λ candidate. candidate.value)
    (filter (λ candidate. is_safe_text candidate.value) candidates)

-- ---- fish: values, each with its help text after a tab

-- A `/` follows the `~` at the start of a value. fish does not quote that `~`, and reads `~root` as
-- the home directory of `root`.
abbrev pub begins_slash : List ℕ → Bool
begins_slash [] = false
begins_slash (byte ∷ rest) = byte == 47

-- the value begins with no `~`, or with `~/`
abbrev pub is_tilde_plain : List ℕ → Bool
is_tilde_plain [] = true
is_tilde_plain (byte ∷ rest) = not (byte == 126) || begins_slash rest

-- the last byte of U+2000 to U+200A, U+2028, U+2029 and U+202F, which begin with 226 and 128
abbrev pub ends_blank : ℕ → Bool
ends_blank byte = is_in_range 128 138 byte || is_in_range 168 169 byte || byte == 175

-- these bytes are U+1680, one of those characters, U+205F or U+3000
abbrev pub is_wide_blank : ℕ → ℕ → ℕ → Bool
is_wide_blank first second third =
    first == 225 && second == 154 && third == 128
    || first == 226 && second == 128 && ends_blank third
    || first == 226 && second == 129 && third == 159
    || first == 227 && second == 128 && third == 128

-- The value begins with a blank that is not ASCII: U+00A0, which is 194 and 160 in UTF-8, or one of
-- those. fish does not quote it, and drops it at the beginning of a word.
abbrev pub begins_blank : List ℕ → Bool
begins_blank [] = false
begins_blank (first ∷ []) = false
begins_blank (first ∷ second ∷ []) = first == 194 && second == 160
begins_blank (first ∷ second ∷ third ∷ rest) =
    first == 194 && second == 160 || is_wide_blank first second third

-- fish inserts the value as it is
abbrev pub is_fish_kept : List ℕ → Bool
is_fish_kept value = is_tilde_plain value && not (begins_blank value)

abbrev pub is_fish_insertable : List ℕ → Bool
is_fish_insertable value = is_safe_text value && is_fish_kept value

abbrev pub safe_line : CompletionCandidate → List ℕ
safe_line candidate = shown_line (safe_shown candidate)

abbrev pub safe_lines_reply : List CompletionCandidate → List ℕ
safe_lines_reply candidates =
    flat_map safe_line (filter (λ candidate. is_fish_insertable candidate.value) candidates)

-- an item, if fish inserts its value as it is
abbrev pub fish_kept : Shown → Option Shown
fish_kept item = if is_fish_kept item.value then Some item else None

-- the item of a line; no value is read that fish would change
unfoldable pub fish_item_read : List ℕ → Option Shown
fish_item_read line = fish_kept (line_shown line)

-- each of its lines is read back as such a value and its help text
unfoldable pub SafeLinesRead : List CompletionCandidate → Type 0
SafeLinesRead candidates =
    map fish_item_read (lines_from [] (safe_lines_reply candidates))
    ≡ map (λ candidate. Some (safe_shown candidate))
    (filter (λ candidate. is_fish_insertable candidate.value) candidates)

-- ---- zsh: values, each with its help text after a colon

-- one of the characters U+E000 to U+E0FF begins here, which zsh's line takes for a byte from 0 to
-- 255: in UTF-8, they begin with 238 and a byte from 128 to 131
abbrev pub ends_raw : List ℕ → Bool
ends_raw [] = false
ends_raw (byte ∷ rest) = is_in_range 128 131 byte

abbrev pub begins_raw : ℕ → List ℕ → Bool
begins_raw byte rest = byte == 238 && ends_raw rest

-- zsh inserts the value as it is: its locale takes it as it is, and so does its line
abbrev pub is_zsh_kept : Bool → List ℕ → Bool
is_zsh_kept ascii_only value = is_in_locale ascii_only value && not (is_found begins_raw value)

abbrev pub is_zsh_insertable : Bool → List ℕ → Bool
is_zsh_insertable ascii_only value = is_safe_text value && is_zsh_kept ascii_only value

abbrev pub safe_zsh_line : CompletionCandidate → List ℕ
safe_zsh_line candidate = zsh_item (safe_shown candidate) ++ codes "\n"

abbrev pub safe_zsh_reply : Bool → List CompletionCandidate → List ℕ
safe_zsh_reply ascii_only candidates =
    flat_map safe_zsh_line
    (filter (λ candidate. is_zsh_insertable ascii_only candidate.value) candidates)

-- an item, if zsh inserts its value as it is
abbrev pub zsh_kept : Bool → Shown → Option Shown
zsh_kept ascii_only item = if is_zsh_kept ascii_only item.value then Some item else None

-- The item of a line. zsh quotes the value letter by letter. In UTF-8 the value stays as it is,
-- except where the line takes a letter for a byte. In any other locale, `ascii_only`, this is known
-- of ASCII alone, and no other value is read.
unfoldable pub zsh_item_read : Bool → List ℕ → Option Shown
zsh_item_read ascii_only line =
    option_and_then (zsh_kept ascii_only) (shown_from [] (marks line))

-- each of its lines is read back as such a value and its help text
unfoldable pub SafeZshRead : Bool → List CompletionCandidate → Type 0
SafeZshRead ascii_only candidates =
    map (zsh_item_read ascii_only) (lines_from [] (safe_zsh_reply ascii_only candidates))
    ≡ map (λ candidate. Some (safe_shown candidate))
    (filter (λ candidate. is_zsh_insertable ascii_only candidate.value) candidates)
