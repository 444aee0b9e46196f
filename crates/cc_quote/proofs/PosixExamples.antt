-- Examples of how scripts for a POSIX shell are cut.
use Rattle.std.proofs.Common.{◌≡◌, ◌∷◌, [], true, false, refl, codes, map, Some, None}
use Rattle.cc_quote.specs.PosixQuote.{posix_word_from, posix_word_of}
use Rattle.cc_quote.specs.PosixSigns.{sign, byte_of}
use Rattle.cc_quote.specs.PosixTokens.{cut, posix_tokens, single, double}
use Rattle.cc_quote.specs.PosixTokenWords.{word_of_token, ends_token, begins_no_token}
use Rattle.cc_quote.specs.Tokens.Piece.{bare, unclosed}

-- quotes of both kinds, a backslash before a line feed and one before a quote, and no comment
quotes_row : posix_tokens (codes "a 'b c'\\''d' \"e\\$f\\g\"\\\nh #i\\ j")
    ≡ (bare (codes "a") ∷ [])
    ∷ (single (codes "b c") ∷ bare (codes "'") ∷ single (codes "d") ∷ [])
    ∷ (double (codes "e$f\\g") ∷ bare (codes "h") ∷ [])
    ∷ (bare (codes "#i j") ∷ [])
    ∷ []
unfolding sign byte_of cut posix_tokens
quotes_row = refl

-- a quote that is open at the end, and a backslash at the end
open_row : posix_tokens (codes "a\"b c")
    ≡ (bare (codes "a") ∷ unclosed (codes "\"") (codes "b c") ∷ []) ∷ []
unfolding sign byte_of cut posix_tokens
open_row = refl

backslash_row : posix_tokens (codes "a\\") ≡ (bare (codes "a") ∷ unclosed (codes "\\") [] ∷ []) ∷ []
unfolding sign byte_of cut posix_tokens
backslash_row = refl

-- words with pieces of each kind, with a quote that is open at the end, and with a backslash at the
-- end
word_row : posix_word_of (codes "'a'\\''b' c") ≡ Some (codes "a'b", codes " c")
unfolding sign byte_of posix_word_from posix_word_of
word_row = refl

pieces_row : posix_word_of (codes "\"a\\$b\\c\"d\\ e\\\nf g") ≡ Some (codes "a$b\\cd ef", codes " g")
unfolding sign byte_of posix_word_from posix_word_of
pieces_row = refl

open_word_row : posix_word_of (codes "'a") ≡ None
unfolding sign byte_of posix_word_from posix_word_of
open_word_row = refl

last_backslash_row : posix_word_of (codes "a\\") ≡ None
unfolding sign byte_of posix_word_from posix_word_of
last_backslash_row = refl

-- the word of a token, piece by piece; `None` if a quote or a backslash is open
pieces_spelled : word_of_token (single (codes "b c") ∷ bare (codes "'") ∷ double (codes "d") ∷ [])
    ≡ Some (codes "b c'd")
unfolding word_of_token
pieces_spelled = refl

empty_spelled : word_of_token (single [] ∷ []) ≡ Some []
unfolding word_of_token
empty_spelled = refl

open_spelled : word_of_token (bare (codes "a") ∷ unclosed (codes "\"") (codes "b c") ∷ []) ≡ None
unfolding word_of_token
open_spelled = refl

-- a first token, its word, and the tokens of the text after it
first_tokens : posix_tokens (codes "'b c'\\''d'\tx")
    ≡ (single (codes "b c") ∷ bare (codes "'") ∷ single (codes "d") ∷ [])
    ∷ posix_tokens (codes "\tx")
unfolding sign byte_of cut posix_tokens
first_tokens = refl

first_word : posix_word_of (codes "'b c'\\''d'\tx") ≡ Some (codes "b c'd", codes "\tx")
unfolding sign byte_of posix_word_from posix_word_of
first_word = refl

-- no token begins: after backslashes with a line feed each comes whitespace or the end
none_row : begins_no_token (map sign (codes "\\\n\\\n b")) ≡ true
unfolding sign begins_no_token ends_token
none_row = refl

none_word_row : posix_word_of (codes "\\\n\\\n b") ≡ None
unfolding sign byte_of posix_word_from posix_word_of
none_word_row = refl

some_row : begins_no_token (map sign (codes "\\\n\\ b")) ≡ false
unfolding sign begins_no_token ends_token
some_row = refl
