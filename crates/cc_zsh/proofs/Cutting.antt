-- The cutting of quoted words of a zsh script into tokens, and texts between two `'`.
use Rattle.std.proofs.Common.{◌≡◌, ◌≢◌, ◌==◌, ℕ, Bool, true, false, cond, List, [], ◌∷◌, ◌++◌, map, None, codes, refl, sym, ◌∙◌, ap, ap₂, subst, arith, append_assoc, append-nil}
use Rattle.std.specs.List.{AllByRecursion}
use Rattle.std.proofs.lemmas.Bool.Decides.{Decides-eqb, nat_tests}
use Rattle.std.proofs.lemmas.List.Concat.{flat_map-append}
use Rattle.cc_base.specs.Bytes as ascii
use Rattle.cc_quote.specs.PosixQuote.{posix_escaped}
use Rattle.cc_quote.specs.PosixSigns.{Sign, sign, byte_of}
use Rattle.cc_quote.specs.PosixTokens.{cut, single, between, in_single}
use Rattle.cc_quote.specs.PosixSigns.Sign.{single_quote}
use Rattle.cc_quote.specs.Tokens.{Piece, Token, is_word}
use Rattle.cc_quote.specs.Tokens.Piece.{bare}
use Rattle.cc_quote.proofs.PosixCutting.{tokens_from}
use Rattle.cc_quote.proofs.PosixWords.{byte_of-sign, posix_escaped_byte}
use Rattle.cc_zsh.specs.Reader.{piece_text, word_of, named_function}

-- ---- one token

-- the token of an escaped text, from the pieces and the open piece so far on
abbrev pub cut_word : Token → List ℕ → List ℕ → Token
cut_word pieces text [] = pieces ++ single text ∷ []
cut_word pieces text (byte ∷ word) =
    cond (byte == ascii.single_quote)
    (cut_word ((pieces ++ single text ∷ []) ++ bare (ascii.single_quote ∷ []) ∷ []) [] word)
    (cut_word pieces (text ++ byte ∷ []) word)

-- the token of a text that is escaped between `'`
abbrev pub quoted_token : List ℕ → Token
quoted_token word = cut_word [] [] word

no_quote_sign : (byte : ℕ) → byte == ascii.single_quote ≡ false → sign byte ≢ single_quote
unfolding sign
no_quote_sign byte h = grind (arith, nat_tests)

-- a byte other than `'` stays between the quotes
kept_single : (byte : ℕ) (rest text : List ℕ) (pieces : Token) → byte == ascii.single_quote ≡ false →
    tokens_from (in_single pieces text) (byte ∷ rest)
    ≡ tokens_from (in_single pieces (text ++ byte ∷ [])) rest
unfolding byte_of cut
kept_single byte rest text pieces h = by_sign (sign byte) (no_quote_sign byte h) (byte_of-sign byte)
  where
    by_sign : (s : Sign) → s ≢ single_quote → byte_of s ≡ byte →
        cut (in_single pieces text) (s ∷ map sign rest)
        ≡ cut (in_single pieces (text ++ byte ∷ [])) (map sign rest)
    by_sign single_quote differs e = absurd (differs refl)
    by_sign s differs e = ap (λ x. cut (in_single pieces (text ++ x ∷ [])) (map sign rest)) e

-- an escaped text up to the `'` that closes it, at the end of a line that continues
pub single_cut : (word rest : List ℕ) (pieces : Token) (text : List ℕ) →
    tokens_from (in_single pieces text) (posix_escaped word ++ (codes "' \\\n" ++ rest))
    ≡ cut_word pieces text word ∷ tokens_from between rest
unfolding sign byte_of cut
single_cut [] rest pieces text = refl
single_cut (byte ∷ word) rest pieces text =
    ap (tokens_from (in_single pieces text))
    (append_assoc (posix_escaped_byte byte) (posix_escaped word) (codes "' \\\n" ++ rest))
    ∙ by_test (byte == ascii.single_quote) refl
    (single_cut word rest ((pieces ++ single text ∷ []) ++ bare (ascii.single_quote ∷ []) ∷ []) [])
    (single_cut word rest pieces (text ++ byte ∷ []))
  where
    after : List ℕ
    after = posix_escaped word ++ (codes "' \\\n" ++ rest)

    by_test : (q : Bool) → byte == ascii.single_quote ≡ q →
        tokens_from (in_single ((pieces ++ single text ∷ []) ++ bare (ascii.single_quote ∷ []) ∷ []) []) after
        ≡ cut_word ((pieces ++ single text ∷ []) ++ bare (ascii.single_quote ∷ []) ∷ []) [] word
        ∷ tokens_from between rest →
        tokens_from (in_single pieces (text ++ byte ∷ [])) after
        ≡ cut_word pieces (text ++ byte ∷ []) word ∷ tokens_from between rest →
        tokens_from (in_single pieces text) (cond q (codes "'\\''") (byte ∷ []) ++ after)
        ≡ cond q (cut_word ((pieces ++ single text ∷ []) ++ bare (ascii.single_quote ∷ []) ∷ []) [] word)
        (cut_word pieces (text ++ byte ∷ []) word) ∷ tokens_from between rest
    by_test true e escaped kept = escaped
    by_test false e escaped kept = kept_single byte after text pieces e ∙ kept

-- ---- the content of the token

-- the token begins with a text between two `'`
pub data IsQuoted : Token → Type 0 where
  quoted_word : (text : List ℕ) (rest : Token) → IsQuoted (single text ∷ rest)

cut_word-front : (word text : List ℕ) (piece : Piece) (pieces : Token) →
    cut_word (piece ∷ pieces) text word ≡ piece ∷ cut_word pieces text word
cut_word-front [] text piece pieces = refl
cut_word-front (byte ∷ word) text piece pieces =
    by_test (byte == ascii.single_quote)
    (cut_word-front word [] piece ((pieces ++ single text ∷ []) ++ bare (ascii.single_quote ∷ []) ∷ []))
    (cut_word-front word (text ++ byte ∷ []) piece pieces)
  where
    by_test : (q : Bool) {a b c d : Token} → a ≡ piece ∷ b → c ≡ piece ∷ d →
        cond q a c ≡ piece ∷ cond q b d
    by_test true e f = e
    by_test false e f = f

is_quoted : (word text : List ℕ) → IsQuoted (cut_word [] text word)
is_quoted [] text = quoted_word text []
is_quoted (byte ∷ word) text = by_test (byte == ascii.single_quote)
    (subst IsQuoted (sym (cut_word-front word [] (single text) (bare (ascii.single_quote ∷ []) ∷ [])))
    (quoted_word text (cut_word (bare (ascii.single_quote ∷ []) ∷ []) [] word)))
    (is_quoted word (text ++ byte ∷ []))
  where
    by_test : (q : Bool) {a b : Token} → IsQuoted a → IsQuoted b → IsQuoted (cond q a b)
    by_test true e f = e
    by_test false e f = f

pub token_quoted : (word : List ℕ) → IsQuoted (quoted_token word)
token_quoted word = is_quoted word []

-- the token is not a bare word, and neither names nor begins a function
pub not_word : (sought : List ℕ) (token : Token) → IsQuoted token → is_word sought token ≡ false
unfolding is_word
not_word sought token (quoted_word text rest) = refl

pub names_none : (token : Token) → IsQuoted token → named_function token ≡ None
unfolding named_function
names_none token (quoted_word text []) = refl
names_none token (quoted_word text (piece ∷ rest)) = refl

-- the token spells the text
spelled : (word text : List ℕ) (pieces : Token) →
    word_of (cut_word pieces text word) ≡ word_of pieces ++ (text ++ word)
unfolding word_of
spelled [] text pieces = flat_map-append piece_text pieces (single text ∷ [])
spelled (byte ∷ word) text pieces = by_test (byte == ascii.single_quote) refl
    (spelled word [] ((pieces ++ single text ∷ []) ++ bare (ascii.single_quote ∷ []) ∷ []))
    (spelled word (text ++ byte ∷ []) pieces)
  where
    all : word_of ((pieces ++ single text ∷ []) ++ bare (ascii.single_quote ∷ []) ∷ [])
        ≡ (word_of pieces ++ text) ++ ascii.single_quote ∷ []
    all = flat_map-append piece_text (pieces ++ single text ∷ []) (bare (ascii.single_quote ∷ []) ∷ [])
        ∙ ap (λ t. t ++ ascii.single_quote ∷ []) (flat_map-append piece_text pieces (single text ∷ [])
        ∙ ap (λ t. word_of pieces ++ t) (append-nil text))

    by_test : (q : Bool) → byte == ascii.single_quote ≡ q →
        word_of (cut_word ((pieces ++ single text ∷ []) ++ bare (ascii.single_quote ∷ []) ∷ []) [] word)
        ≡ word_of ((pieces ++ single text ∷ []) ++ bare (ascii.single_quote ∷ []) ∷ []) ++ word →
        word_of (cut_word pieces (text ++ byte ∷ []) word)
        ≡ word_of pieces ++ ((text ++ byte ∷ []) ++ word) →
        word_of (cond q (cut_word ((pieces ++ single text ∷ []) ++ bare (ascii.single_quote ∷ []) ∷ []) [] word)
        (cut_word pieces (text ++ byte ∷ []) word)) ≡ word_of pieces ++ (text ++ byte ∷ word)
    by_test true e escaped kept =
        escaped ∙ ap (λ t. t ++ word) all
        ∙ append_assoc (word_of pieces ++ text) (ascii.single_quote ∷ []) word
        ∙ append_assoc (word_of pieces) text (ascii.single_quote ∷ word)
        ∙ ap (λ b. word_of pieces ++ (text ++ b ∷ word)) (sym ((Decides-eqb byte ascii.single_quote).0 e))
    by_test false e escaped kept =
        kept ∙ ap (λ t. word_of pieces ++ t) (append_assoc text (byte ∷ []) word)

pub word_of-quoted : (word : List ℕ) → word_of (quoted_token word) ≡ word
unfolding word_of
word_of-quoted word = spelled word [] []

-- ---- texts between `'`

-- no byte is a `'`
abbrev pub NoQuote : List ℕ → Type 0
NoQuote text = AllByRecursion (λ byte. byte == ascii.single_quote ≡ false) text

-- a text without `'`, up to the text after it
pub single_run : (run rest text : List ℕ) (pieces : Token) → NoQuote run →
    tokens_from (in_single pieces text) (run ++ rest)
    ≡ tokens_from (in_single pieces (text ++ run)) rest
single_run [] rest text pieces h =
    ap (λ t. tokens_from (in_single pieces t) rest) (sym (append-nil text))
single_run (byte ∷ run) rest text pieces (h, hs) =
    kept_single byte (run ++ rest) text pieces h
    ∙ single_run run rest (text ++ byte ∷ []) pieces hs
    ∙ ap (λ t. tokens_from (in_single pieces t) rest) (append_assoc text (byte ∷ []) run)

-- the text is the escape of a word
pub record Escapes (text word : List ℕ) : Type 0 where
  pub is : text ≡ posix_escaped word

pub escapes_append : (s t v w : List ℕ) → Escapes s v → Escapes t w → Escapes (s ++ t) (v ++ w)
escapes_append s t v w a b = record {
  is = ap₂ (λ x y. x ++ y) a.is b.is ∙ sym (flat_map-append posix_escaped_byte v w);
}

no_quote_escaped : (text : List ℕ) → NoQuote text → text ≡ posix_escaped text
no_quote_escaped [] h = refl
no_quote_escaped (byte ∷ text) (h, hs) =
    ap (λ t. byte ∷ t) (no_quote_escaped text hs)
    ∙ ap (λ b. cond b (codes "'\\''") (byte ∷ []) ++ posix_escaped text) (sym h)

pub escapes_same : (text : List ℕ) → NoQuote text → Escapes text text
escapes_same text h = record { is = no_quote_escaped text h }

-- a text that is the escape of some word
pub record IsEscaped (text : List ℕ) : Type 0 where
  pub word : List ℕ
  pub escapes : Escapes text word

pub escaped_append : (s t : List ℕ) → IsEscaped s → IsEscaped t → IsEscaped (s ++ t)
escaped_append s t a b = record {
  word = a.word ++ b.word;
  escapes = escapes_append s t a.word b.word a.escapes b.escapes;
}

pub escaped_same : (text : List ℕ) → NoQuote text → IsEscaped text
escaped_same text h = record { word = text; escapes = escapes_same text h }

-- the escape of a word
pub escaped_of : (text word : List ℕ) → text ≡ posix_escaped word → IsEscaped text
escaped_of text word e = record { word = word; escapes = record { is = e } }
