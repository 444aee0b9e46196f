-- Examples of the definitions.
use Rattle.std.proofs.Common.{◌≡◌, ◌++◌, ◌∷◌, [], refl, Some, None, codes}
use Rattle.cc_base.specs.Bytes.{right_quote}
use Rattle.cc_quote.specs.ElvishQuote.{elvish_escaped, elvish_word_of}
use Rattle.cc_quote.specs.ElvishTokens.{elvish_tokens}
use Rattle.cc_quote.specs.PowershellQuote.{powershell_escaped, powershell_word_of, powershell_signs, sign_before}
use Rattle.cc_quote.specs.PowershellTokens.{powershell_tokens}
use Rattle.cc_quote.specs.Signs.{sign}
use Rattle.cc_quote.specs.Tokens.{cut}
use Rattle.cc_quote.specs.Tokens.Piece.{bare, quoted, unclosed}

elvish_escape_row : elvish_escaped (codes "it's" ++ 10 ∷ codes "[x]:\\") ≡ codes "it''s [x]:\\"
elvish_escape_row = refl

elvish_word_row : elvish_word_of (codes "'it''s [x]:\\' and more") ≡ Some (codes "it's [x]:\\", codes " and more")
unfolding sign
elvish_word_row = refl

elvish_bare_row : elvish_word_of (codes "it's more") ≡ Some (codes "it's", codes " more")
unfolding sign
elvish_bare_row = refl

elvish_open_row : elvish_word_of (codes "'it''s more") ≡ None
unfolding sign
elvish_open_row = refl

elvish_tokens_row : elvish_tokens (codes "&'a b'= 'it''s'x 'c")
    ≡ (bare (codes "&") ∷ quoted (codes "'") (codes "a b") ∷ bare (codes "=") ∷ [])
    ∷ (quoted (codes "'") (codes "it's") ∷ bare (codes "x") ∷ [])
    ∷ (unclosed (codes "'") (codes "c") ∷ []) ∷ []
unfolding elvish_tokens cut sign
elvish_tokens_row = refl

powershell_escape_row : powershell_escaped (codes "it" ++ right_quote ++ codes "s") ≡ codes "it'" ++ right_quote ++ codes "s"
powershell_escape_row = refl

powershell_word_row : powershell_word_of (codes "'it'" ++ right_quote ++ codes "s and more' and") ≡ Some (codes "it" ++ right_quote ++ codes "s and more", codes " and")
unfolding powershell_signs sign_before sign
powershell_word_row = refl

-- each of the two quotes closes what the other opened, and the token keeps the opening one
powershell_tokens_row : powershell_tokens (codes "a 'b" ++ right_quote ++ codes " " ++ right_quote ++ codes "c d'")
    ≡ (bare (codes "a") ∷ []) ∷ (quoted (codes "'") (codes "b") ∷ []) ∷ (quoted right_quote (codes "c d") ∷ []) ∷ []
unfolding powershell_tokens cut powershell_signs sign_before sign
powershell_tokens_row = refl
