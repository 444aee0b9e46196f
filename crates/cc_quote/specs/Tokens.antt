-- The tokens of a script, which is cut at whitespace outside quotes. Within quotes, two quotes
-- in a row mean the second.
use Rattle.std.specs.Prelude.{ℕ, Bool, false, List, [], ◌∷◌, ◌++◌, if◌then◌else◌, Option, Some, None, unwrap_or, bytes_eq}
use Rattle.cc_quote.specs.Signs.{Sign, blank, quote, other}

-- a piece of a token: a run outside quotes, or an opening quote and the text after it; a piece is
-- `unclosed` if the script ends within its quotes
pub data Piece : Type 0 where
  bare : List ℕ → Piece
  quoted : List ℕ → List ℕ → Piece
  unclosed : List ℕ → List ℕ → Piece

-- the text between two runs of whitespace: its pieces, in order
abbrev pub Token : Type 0
Token = List Piece

-- The state of the cutting: between two tokens, or in a token, with its pieces so far. Within
-- quotes it has the opening quote and the text of the open piece. After a quote that may close the
-- text, or be the first of two, there is a state of its own.
pub data QuoteState : Type 0 where
  between : QuoteState
  in_bare : List Piece → List ℕ → QuoteState
  in_quotes : List Piece → List ℕ → List ℕ → QuoteState
  after_quotes : List Piece → List ℕ → List ℕ → QuoteState

-- the tokens that signs give from a state on
unfoldable pub cut : QuoteState → List Sign → List Token
cut between [] = []
cut between (blank bytes ∷ signs) = cut between signs
cut between (quote bytes ∷ signs) = cut (in_quotes [] bytes []) signs
cut between (other bytes ∷ signs) = cut (in_bare [] bytes) signs
cut (in_bare pieces run) [] = (pieces ++ bare run ∷ []) ∷ []
cut (in_bare pieces run) (blank bytes ∷ signs) = (pieces ++ bare run ∷ []) ∷ cut between signs
cut (in_bare pieces run) (quote bytes ∷ signs) =
    cut (in_quotes (pieces ++ bare run ∷ []) bytes []) signs
cut (in_bare pieces run) (other bytes ∷ signs) = cut (in_bare pieces (run ++ bytes)) signs
cut (in_quotes pieces opening text) [] = (pieces ++ unclosed opening text ∷ []) ∷ []
cut (in_quotes pieces opening text) (blank bytes ∷ signs) =
    cut (in_quotes pieces opening (text ++ bytes)) signs
cut (in_quotes pieces opening text) (quote bytes ∷ signs) =
    cut (after_quotes pieces opening text) signs
cut (in_quotes pieces opening text) (other bytes ∷ signs) =
    cut (in_quotes pieces opening (text ++ bytes)) signs
cut (after_quotes pieces opening text) [] = (pieces ++ quoted opening text ∷ []) ∷ []
cut (after_quotes pieces opening text) (blank bytes ∷ signs) =
    (pieces ++ quoted opening text ∷ []) ∷ cut between signs
cut (after_quotes pieces opening text) (quote bytes ∷ signs) =
    cut (in_quotes pieces opening (text ++ bytes)) signs
cut (after_quotes pieces opening text) (other bytes ∷ signs) =
    cut (in_bare (pieces ++ quoted opening text ∷ []) bytes) signs

-- whether a token is the given bare word and nothing else
unfoldable pub is_word : List ℕ → Token → Bool
is_word word (bare run ∷ []) = bytes_eq run word
is_word word _ = false

-- the tokens after the given bare words; `None` if they do not begin with those words
unfoldable pub strip_words : List (List ℕ) → List Token → Option (List Token)
strip_words [] tokens = Some tokens
strip_words (word ∷ words) [] = None
strip_words (word ∷ words) (token ∷ tokens) =
    if is_word word token then strip_words words tokens else None

-- the tokens after the first occurrence of the given bare words in a row; none if there is no such
-- occurrence
unfoldable pub after_words : List (List ℕ) → List Token → List Token
after_words words [] = []
after_words words (token ∷ tokens) =
    unwrap_or (strip_words words (token ∷ tokens)) (after_words words tokens)
