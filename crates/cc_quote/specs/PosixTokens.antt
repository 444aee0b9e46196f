-- The tokens of a script for a POSIX shell, such as bash or zsh. The script is cut at whitespace
-- outside quotes, as words are read. A token keeps its pieces, each with its kind of quote. Nothing
-- is a comment.
use Rattle.std.specs.Prelude.{ℕ, Bool, List, [], ◌∷◌, ◌++◌, map, Some, None, bytes_eq}
use Rattle.cc_base.specs.Bytes.{double_quote as double_quote_byte, single_quote as single_quote_byte, backslash as backslash_byte}
use Rattle.cc_quote.specs.PosixQuote.{next_state, word_after}
use Rattle.cc_quote.specs.PosixSigns.{Sign, sign, byte_of}
use Rattle.cc_quote.specs.PosixSigns.Sign.{single_quote, double_quote}
use Rattle.cc_quote.specs.Tokens.{Piece, Token}
use Rattle.cc_quote.specs.Tokens.Piece.{bare, quoted, unclosed}
use Rattle.cc_quote.specs.declared.posix.QuoteState.{QuoteState}
use Rattle.cc_quote.specs.declared.posix.QuoteState.TheVariants.{Before, Bare, InSingle, InDouble, InDoubleEscaped}

-- a piece between single quotes, and one between double quotes
abbrev pub single : List ℕ → Piece
single text = quoted (single_quote_byte ∷ []) text

abbrev pub double : List ℕ → Piece
double text = quoted (double_quote_byte ∷ []) text

-- whether an opening quote is a double quote
abbrev pub is_double_quote : List ℕ → Bool
is_double_quote opening = bytes_eq opening (double_quote_byte ∷ [])

-- a token so far: its pieces, and the text of the open piece if there is one
pub data PartialToken : Type 0 where
  after_piece : Token → PartialToken
  in_piece : Token → List ℕ → PartialToken

-- the state of the cutting: the state of the reader of words, and the token so far
pub data CutState : Type 0 where
  at : QuoteState → PartialToken → CutState

-- between two tokens, and in a piece of each kind
abbrev pub between : CutState
between = at Before (after_piece [])

abbrev pub in_bare : Token → List ℕ → CutState
in_bare pieces run = at Bare (in_piece pieces run)

abbrev pub in_single : Token → List ℕ → CutState
in_single pieces text = at InSingle (in_piece pieces text)

abbrev pub in_double : Token → List ℕ → CutState
in_double pieces text = at InDouble (in_piece pieces text)

-- the piece that is open at a state
abbrev pub piece_of : QuoteState → List ℕ → Piece
piece_of InSingle text = single text
piece_of InDouble text = double text
piece_of _ text = bare text

-- the pieces, including the one that is open at a state
abbrev pub pieces_of : QuoteState → PartialToken → Token
pieces_of state (after_piece pieces) = pieces
pieces_of state (in_piece pieces text) = pieces ++ piece_of state text ∷ []

-- the pieces, including one that stays open after the given quote
abbrev pub unclosed_after : List ℕ → PartialToken → Token
unclosed_after opening (after_piece pieces) = pieces ++ unclosed opening [] ∷ []
unclosed_after opening (in_piece pieces text) = pieces ++ unclosed opening text ∷ []

-- a piece begins if there is a text for it
abbrev pub begun : Token → List ℕ → PartialToken
begun pieces [] = after_piece pieces
begun pieces text = in_piece pieces text

-- The token after one more byte with the given sign, at a state at which the token does not end. A
-- quote that opens or closes ends a piece. Otherwise the open piece grows as the word does.
abbrev pub token_after : QuoteState → Sign → PartialToken → PartialToken
token_after Before single_quote token = in_piece [] []
token_after Before double_quote token = in_piece [] []
token_after Bare single_quote token = in_piece (pieces_of Bare token) []
token_after Bare double_quote token = in_piece (pieces_of Bare token) []
token_after InSingle single_quote token = after_piece (pieces_of InSingle token)
token_after InDouble double_quote token = after_piece (pieces_of InDouble token)
token_after state s (after_piece pieces) = begun pieces (word_after state s [] (byte_of s ∷ []))
token_after state s (in_piece pieces text) =
    in_piece pieces (word_after state s text (byte_of s ∷ []))

-- the token that ends at a state, if the state is within one
abbrev pub ended_token : QuoteState → PartialToken → List Token
ended_token Before token = []
ended_token Bare token = pieces_of Bare token ∷ []
ended_token InSingle token = unclosed_after (single_quote_byte ∷ []) token ∷ []
ended_token InDouble token = unclosed_after (double_quote_byte ∷ []) token ∷ []
ended_token InDoubleEscaped token = unclosed_after (double_quote_byte ∷ []) token ∷ []
ended_token _ token = (pieces_of Bare token ++ unclosed (backslash_byte ∷ []) [] ∷ []) ∷ []

-- the tokens that signs give from a state on
unfoldable pub cut : CutState → List Sign → List Token
cut (at state token) [] = ended_token state token
cut (at state token) (s ∷ signs) = elim (next_state state s) [
  | Some next ↦ cut (at next (token_after state s token)) signs
  | None ↦ ended_token state token ++ cut between signs
]

-- the tokens of a script
unfoldable pub posix_tokens : List ℕ → List Token
posix_tokens script = cut between (map sign script)
