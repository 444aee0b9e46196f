-- The texts that a line of a reply can contain: those without control characters.
use Rattle.std.specs.Prelude.{ℕ, Bool, false, not, ◌&&◌, ◌||◌, ◌==◌, List, [], ◌∷◌, Option, Some, None, length, if◌then◌else◌}
use Rattle.std.specs.Char.{is_ascii, is_ascii_control}
use Rattle.std.specs.Int.{is_in_range}
use Rattle.std.specs.List.{list_all}
use Rattle.cc_candidates.specs.declared.candidate.CompletionCandidate.{CompletionCandidate}
use Rattle.cc_replies.specs.Reply.{Shown, first_line}

-- something begins at one byte of the text, by a test of that byte and of the text after it
abbrev pub is_found : (ℕ → List ℕ → Bool) → List ℕ → Bool
is_found begins [] = false
is_found begins (byte ∷ rest) = begins byte rest || is_found begins rest

-- U+0080 to U+009F are two bytes: 194, and one from 128 to 159
abbrev pub ends_control : List ℕ → Bool
ends_control [] = false
ends_control (byte ∷ rest) = is_in_range 128 159 byte

-- a control character begins here: below U+0020, U+007F, or from U+0080 to U+009F
abbrev pub begins_control : ℕ → List ℕ → Bool
begins_control byte rest = is_ascii_control byte || byte == 194 && ends_control rest

-- the text has a byte, and no control character
abbrev pub is_safe_text : List ℕ → Bool
is_safe_text text = not (length text == 0) && not (is_found begins_control text)

-- In some locales a byte of a letter and the backslash after it are one letter, as in GBK, so the
-- backslash escapes nothing. In UTF-8 there is no such pair. In the locales for which a shell asks for
-- `ascii_only`, only a text of ASCII is certain to stay as it is.
abbrev pub is_in_locale : Bool → List ℕ → Bool
is_in_locale ascii_only text = not ascii_only || list_all is_ascii text

-- such a text
abbrev pub read_in_locale : Bool → List ℕ → Option (List ℕ)
read_in_locale ascii_only text = if is_in_locale ascii_only text then Some text else None

-- the help text that is shown: its first line, if that is such a text
unfoldable pub safe_help : Option (List ℕ) → Option (List ℕ)
safe_help None = None
safe_help (Some help) = if is_safe_text (first_line help) then Some (first_line help) else None

-- the part of a candidate that is in a safe reply: its value and that line
abbrev pub safe_shown : CompletionCandidate → Shown
safe_shown candidate = record { value = candidate.value; help = safe_help candidate.help }
