-- Words as Elvish quotes them.
use Rattle.std.specs.Prelude.{ℕ, List, [], ◌∷◌, Option, map, ◌==◌, if◌then◌else◌}
use Rattle.cc_base.specs.Bytes.{line_feed, space, single_quote}
use Rattle.cc_quote.specs.Escapes.{escaped_by}
use Rattle.cc_quote.specs.QuotedWord.{before, word_from}
use Rattle.cc_quote.specs.Signs.{sign}
use Rattle.memchr.specs.Find.{is_byte2}

-- the replacement of a byte: a doubled quote, or a space for a line feed
abbrev pub elvish_replacement : ℕ → List ℕ
elvish_replacement byte =
    if byte == single_quote then single_quote ∷ single_quote ∷ [] else space ∷ []

-- a text as it is written between two quotes
abbrev pub elvish_escaped : List ℕ → List ℕ
elvish_escaped text = escaped_by (is_byte2 single_quote line_feed) elvish_replacement text

-- the word with which a text begins, and the rest
abbrev pub elvish_word_of : List ℕ → Option (List ℕ × List ℕ)
elvish_word_of text = word_from before (map sign text)
