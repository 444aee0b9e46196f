-- The words that a POSIX shell reads, as tokens of a script spell them.
use Rattle.std.specs.Prelude.{◌≡◌, ℕ, Bool, true, false, List, [], ◌∷◌, ◌++◌, Option, Some, None, map, option_map}
use Rattle.cc_quote.specs.PosixSigns.{Sign, sign}
use Rattle.cc_quote.specs.PosixTokens.{posix_tokens}
use Rattle.cc_quote.specs.PosixSigns.Sign.{blank, line_feed, backslash}
use Rattle.cc_quote.specs.Tokens.{Token}
use Rattle.cc_quote.specs.Tokens.Piece.{bare, quoted, unclosed}

-- the word that a token spells, piece by piece; `None` if a quote or a backslash is open
unfoldable pub word_of_token : Token → Option (List ℕ)
word_of_token [] = Some []
word_of_token (bare run ∷ pieces) = option_map (λ word. run ++ word) (word_of_token pieces)
word_of_token (quoted _ text ∷ pieces) = option_map (λ word. text ++ word) (word_of_token pieces)
word_of_token (unclosed _ _ ∷ pieces) = None

-- whether a token ends before the given signs: at the end, at a space or a tab, or at a line feed
unfoldable pub ends_token : List Sign → Bool
ends_token [] = true
ends_token (blank _ ∷ _) = true
ends_token (line_feed ∷ _) = true
ends_token _ = false

-- whether no token begins with the given signs: after backslashes with a line feed each comes the
-- end, a space or a tab, or a line feed
unfoldable pub begins_no_token : List Sign → Bool
begins_no_token (backslash ∷ line_feed ∷ signs) = begins_no_token signs
begins_no_token signs = ends_token signs

-- the first token spells the word and ends before the rest, which is cut into the other tokens
pub record IsFirstToken (tokens : List Token) (word rest : List ℕ) : Type 0 where
  pub token : Token
  pub whole : tokens ≡ token ∷ posix_tokens rest
  pub spells : word_of_token token ≡ Some word
  pub ends : ends_token (map sign rest) ≡ true

-- the only token has an open quote or backslash
pub record IsOpenToken (tokens : List Token) : Type 0 where
  pub token : Token
  pub whole : tokens ≡ token ∷ []
  pub no_word : word_of_token token ≡ None

-- what is read of a text that begins with a token, according to its tokens
abbrev pub IsTokenRead : List Token → Option (List ℕ × List ℕ) → Type 0
IsTokenRead tokens (Some (word, rest)) = IsFirstToken tokens word rest
IsTokenRead tokens None = IsOpenToken tokens

-- The word that is read agrees with the tokens of the text. If no token begins it, no word is read.
-- Otherwise the word of the first token and the text after it are read, or nothing if that token is
-- open.
pub record ReadsFirstToken (text : List ℕ) (read : Option (List ℕ × List ℕ)) : Type 0 where
  pub nothing : begins_no_token (map sign text) ≡ true → read ≡ None
  pub token : begins_no_token (map sign text) ≡ false → IsTokenRead (posix_tokens text) read
