-- A POSIX shell reads the word that the first token of a text spells.
use Rattle.std.proofs.Common.{◌≡◌, ℕ, Bool, true, false, List, [], ◌∷◌, ◌++◌, map, Option, Some, None, option_map, refl, sym, subst, ◌∙◌, ap, append_assoc, append-nil}
use Rattle.std.specs.Bool.{⊤}
use Rattle.cc_base.specs.Bytes as ascii
use Rattle.cc_quote.specs.PosixQuote.{next_state, word_after, is_bare, posix_word_from, posix_word_of}
use Rattle.cc_quote.specs.WordReader.{ended}
use Rattle.cc_quote.specs.PosixSigns.{Sign, sign, byte_of}
use Rattle.cc_quote.specs.PosixSigns.Sign.{blank, line_feed, single_quote, double_quote, backslash, other}
use Rattle.cc_quote.specs.PosixTokens.{PartialToken, between, piece_of, pieces_of, unclosed_after, begun, token_after, ended_token, cut, posix_tokens}
use Rattle.cc_quote.specs.PosixTokens.PartialToken.{after_piece, in_piece}
use Rattle.cc_quote.specs.PosixTokens.CutState.{at}
use Rattle.cc_quote.specs.PosixTokenWords.{word_of_token, ends_token, begins_no_token, IsFirstToken, IsTokenRead, ReadsFirstToken}
use Rattle.cc_quote.specs.Tokens.{Token, Piece}
use Rattle.cc_quote.specs.Tokens.Piece.{bare, quoted, unclosed}
use Rattle.cc_quote.specs.declared.posix.QuoteState.{QuoteState}
use Rattle.cc_quote.specs.declared.posix.QuoteState.TheVariants.{Before, BeforeEscaped, Bare, BareEscaped, InSingle, InDouble, InDoubleEscaped}
use Rattle.cc_quote.proofs.PosixWords.{byte_of-sign}

-- ---- the pieces of a token

-- the word of two runs of pieces
abbrev joined : Option (List ℕ) → Option (List ℕ) → Option (List ℕ)
joined None more = None
joined (Some word) more = option_map (λ w. word ++ w) more

joined-nothing : (more : Option (List ℕ)) → more ≡ joined (Some []) more
joined-nothing None = refl
joined-nothing (Some word) = refl

joined-before : (run : List ℕ) (word more : Option (List ℕ))
    → option_map (λ w. run ++ w) (joined word more)
    ≡ joined (option_map (λ w. run ++ w) word) more
joined-before run None more = refl
joined-before run (Some word) None = refl
joined-before run (Some word) (Some more) = ap Some (sym (append_assoc run word more))

word-append : (pieces more : Token)
    → word_of_token (pieces ++ more) ≡ joined (word_of_token pieces) (word_of_token more)
unfolding word_of_token
word-append [] more = joined-nothing (word_of_token more)
word-append (bare run ∷ pieces) more =
    ap (option_map (λ w. run ++ w)) (word-append pieces more)
    ∙ joined-before run (word_of_token pieces) (word_of_token more)
word-append (quoted opening text ∷ pieces) more =
    ap (option_map (λ w. text ++ w)) (word-append pieces more)
    ∙ joined-before text (word_of_token pieces) (word_of_token more)
word-append (unclosed opening text ∷ pieces) more = refl

-- the word is the word of the pieces, followed by the text of the open piece
record Holds (pieces : Token) (text word : List ℕ) : Type 0 where
  before : List ℕ
  spelled : word_of_token pieces ≡ Some before
  whole : word ≡ before ++ text

-- the token so far spells the word so far
abbrev Spells : PartialToken → List ℕ → Type 0
Spells (after_piece pieces) word = word_of_token pieces ≡ Some word
Spells (in_piece pieces text) word = Holds pieces text word

-- a piece begins
opened : (pieces : Token) (word : List ℕ) → word_of_token pieces ≡ Some word → Holds pieces [] word
opened pieces word h = record { before = word; spelled = h; whole = sym (append-nil word) }

-- a piece ends
with_piece : (pieces : Token) (piece : Piece) (text word : List ℕ) → word_of_token (piece ∷ []) ≡ Some (text ++ []) → Holds pieces text word
    → word_of_token (pieces ++ piece ∷ []) ≡ Some word
with_piece pieces piece text word e h =
    word-append pieces (piece ∷ [])
    ∙ ap (λ w. joined w (word_of_token (piece ∷ []))) h.spelled
    ∙ ap (joined (Some h.before)) (e ∙ ap Some (append-nil text))
    ∙ ap Some (sym h.whole)

pieces_spell : (state : QuoteState) (token : PartialToken) (word : List ℕ) → Spells token word → word_of_token (pieces_of state token) ≡ Some word
unfolding word_of_token
pieces_spell state (after_piece pieces) word h = h
pieces_spell InSingle (in_piece pieces text) word h = with_piece pieces (piece_of InSingle text) text word refl h
pieces_spell InDouble (in_piece pieces text) word h = with_piece pieces (piece_of InDouble text) text word refl h
pieces_spell state (in_piece pieces text) word h = with_piece pieces (bare text) text word refl h

-- the text ends before the piece does
no_word : (pieces more : Token) (word : List ℕ) → word_of_token pieces ≡ Some word → word_of_token more ≡ None → word_of_token (pieces ++ more) ≡ None
no_word pieces more word h e =
    word-append pieces more ∙ ap (λ w. joined w (word_of_token more)) h ∙ ap (joined (Some word)) e

unclosed_spells : (opening : List ℕ) (token : PartialToken) (word : List ℕ) → Spells token word → word_of_token (unclosed_after opening token) ≡ None
unfolding word_of_token
unclosed_spells opening (after_piece pieces) word h = no_word pieces (unclosed opening [] ∷ []) word h refl
unclosed_spells opening (in_piece pieces text) word h = no_word pieces (unclosed opening text ∷ []) h.before h.spelled refl

-- ---- from state to state

with_backslash : (front text bytes : List ℕ) → front ++ text ++ ascii.backslash ∷ [] ++ bytes ≡ front ++ (text ++ ascii.backslash ∷ [] ++ bytes)
with_backslash front text bytes =
    ap (λ w. w ++ bytes) (append_assoc front text (ascii.backslash ∷ [])) ∙ append_assoc front (text ++ ascii.backslash ∷ []) bytes

-- the word grows at its end
word_after-append : (state : QuoteState) (s : Sign) (front text bytes : List ℕ) → word_after state s (front ++ text) bytes ≡ front ++ word_after state s text bytes
word_after-append InSingle single_quote front text bytes = refl
word_after-append InDouble double_quote front text bytes = refl
word_after-append InDouble backslash front text bytes = refl
word_after-append InDoubleEscaped line_feed front text bytes = refl
word_after-append BeforeEscaped line_feed front text bytes = refl
word_after-append BareEscaped line_feed front text bytes = refl
word_after-append InDoubleEscaped (blank b) front text bytes = with_backslash front text bytes
word_after-append InDoubleEscaped single_quote front text bytes = with_backslash front text bytes
word_after-append InDoubleEscaped (other b) front text bytes = with_backslash front text bytes
word_after-append Before single_quote front text bytes = refl
word_after-append Before double_quote front text bytes = refl
word_after-append Before backslash front text bytes = refl
word_after-append Bare single_quote front text bytes = refl
word_after-append Bare double_quote front text bytes = refl
word_after-append Bare backslash front text bytes = refl
word_after-append state s front text bytes = append_assoc front text bytes

grown : (state : QuoteState) (s : Sign) (pieces : Token) (text word bytes : List ℕ) → Holds pieces text word
    → Holds pieces (word_after state s text bytes) (word_after state s word bytes)
grown state s pieces text word bytes h = record {
  before = h.before;
  spelled = h.spelled;
  whole = ap (λ w. word_after state s w bytes) h.whole ∙ word_after-append state s h.before text bytes;
}

-- the state is within a token
abbrev HasBegun : QuoteState → Type 0
HasBegun Before = ⊥
HasBegun BeforeEscaped = ⊥
HasBegun _ = ⊤

stays_begun : (state next : QuoteState) (s : Sign) → HasBegun state → next_state state s ≡ Some next → HasBegun next
stays_begun state next s b e = subst Follows e (follows state s b)
  where
    Follows : Option QuoteState → Type 0
    Follows None = ⊤
    Follows (Some next) = HasBegun next

    follows : (state : QuoteState) (s : Sign) → HasBegun state → Follows (next_state state s)
    follows Before s b = absurd b
    follows BeforeEscaped s b = absurd b
    follows Bare line_feed b = tt
    follows InSingle line_feed b = tt
    follows InDouble line_feed b = tt
    follows state s b = tt

-- the token after one more byte spells the word after it
spells_after : (state : QuoteState) (s : Sign) (token : PartialToken) (word : List ℕ) → HasBegun state → Spells token word
    → Spells (token_after state s token) (word_after state s word (byte_of s ∷ []))
spells_after Before s token word b h = absurd b
spells_after Bare single_quote token word b h = opened (pieces_of Bare token) word (pieces_spell Bare token word h)
spells_after Bare double_quote token word b h = opened (pieces_of Bare token) word (pieces_spell Bare token word h)
spells_after InSingle single_quote token word b h = pieces_spell InSingle token word h
spells_after InDouble double_quote token word b h = pieces_spell InDouble token word h
spells_after state s (in_piece pieces text) word b h = grown state s pieces text word (byte_of s ∷ []) h
spells_after state s (after_piece pieces) word b h =
    begins (word_after state s [] (byte_of s ∷ [])) (word_after state s word (byte_of s ∷ [])) (grown state s pieces [] word (byte_of s ∷ []) (opened pieces word h))
  where
    begins : (text word : List ℕ) → Holds pieces text word → Spells (begun pieces text) word
    begins [] word h = h.spelled ∙ ap Some (sym (h.whole ∙ append-nil h.before))
    begins (byte ∷ text) word h = h

-- the token ends at the end of the text
at_end : (state : QuoteState) (token : PartialToken) (word : List ℕ) → HasBegun state → Spells token word → IsTokenRead (ended_token state token) (ended (is_bare state) word [])
unfolding posix_tokens cut word_of_token ends_token
at_end Before token word b h = absurd b
at_end BeforeEscaped token word b h = absurd b
at_end Bare token word b h = record { token = pieces_of Bare token; whole = refl; spells = pieces_spell Bare token word h; ends = refl }
at_end BareEscaped token word b h = record {
  token = pieces_of Bare token ++ unclosed (ascii.backslash ∷ []) [] ∷ [];
  whole = refl;
  no_word = no_word (pieces_of Bare token) (unclosed (ascii.backslash ∷ []) [] ∷ []) word (pieces_spell Bare token word h) refl;
}
at_end InSingle token word b h = let opening : List ℕ = ascii.single_quote ∷ [] in
    record { token = unclosed_after opening token; whole = refl; no_word = unclosed_spells opening token word h }
at_end state token word b h = let opening : List ℕ = ascii.double_quote ∷ [] in
    record { token = unclosed_after opening token; whole = refl; no_word = unclosed_spells opening token word h }

-- the token ends before whitespace
first_token : (s : Sign) (signs : List Sign) (rest : List ℕ) (token : Token) (word : List ℕ) → map sign rest ≡ s ∷ signs → ends_token (s ∷ signs) ≡ true
    → cut between (s ∷ signs) ≡ cut between signs → word_of_token token ≡ Some word → IsFirstToken (token ∷ cut between signs) word rest
unfolding posix_tokens
first_token s signs rest token word r ends skips spells = record {
  token = token;
  whole = ap (λ tokens. token ∷ tokens) (sym (ap (cut between) r ∙ skips));
  spells = spells;
  ends = ap ends_token r ∙ ends;
}

at_blank : (state : QuoteState) (s : Sign) (signs : List Sign) (rest : List ℕ) (token : PartialToken) (word : List ℕ) → next_state state s ≡ None
    → map sign rest ≡ s ∷ signs → HasBegun state → Spells token word → IsTokenRead (ended_token state token ++ cut between signs) (ended (is_bare state) word rest)
unfolding cut ends_token
at_blank Before s signs rest token word e r b h = absurd b
at_blank BeforeEscaped s signs rest token word e r b h = absurd b
at_blank Bare (blank byte) signs rest token word e r b h = first_token (blank byte) signs rest (pieces_of Bare token) word r refl refl (pieces_spell Bare token word h)
at_blank Bare line_feed signs rest token word e r b h = first_token line_feed signs rest (pieces_of Bare token) word r refl refl (pieces_spell Bare token word h)
at_blank InSingle line_feed signs rest token word e r b h = cc
at_blank InDouble line_feed signs rest token word e r b h = cc
at_blank state s signs rest token word e r b h = cc

-- the word that is read from within a token agrees with the tokens
abbrev Agree : List ℕ → QuoteState → PartialToken → List ℕ → Type 0
Agree text state token word = IsTokenRead (cut (at state token) (map sign text)) (posix_word_from state word text)

abbrev AgreeOn : List ℕ → Type 0
AgreeOn text = (state : QuoteState) (token : PartialToken) (word : List ℕ) → HasBegun state → Spells token word → Agree text state token word

in_token : (text : List ℕ) → AgreeOn text
unfolding cut posix_word_from
in_token [] state token word b h = at_end state token word b h
in_token (byte ∷ text) state token word b h =
    by (next_state state s) refl
    (λ next e. in_token text next (token_after state s token) word_then (stays_begun state next s b e)
    (subst (λ x. Spells (token_after state s token) (word_after state s word (x ∷ []))) (byte_of-sign byte) (spells_after state s token word b h)))
  where
    s : Sign
    s = sign byte

    word_then : List ℕ
    word_then = word_after state s word (byte ∷ [])

    by : (after : Option QuoteState) → next_state state s ≡ after
        → ((next : QuoteState) → next_state state s ≡ Some next → Agree text next (token_after state s token) word_then)
        → IsTokenRead
        (elim after [
          | Some next ↦ cut (at next (token_after state s token)) (map sign text)
          | None ↦ ended_token state token ++ cut between (map sign text)
        ])
        (elim after [
          | Some next ↦ posix_word_from next word_then text
          | None ↦ ended (is_bare state) word (byte ∷ text)
        ])
    by (Some next) e goes = goes next e
    by None e goes = at_blank state s (map sign text) (byte ∷ text) token word e refl b h

-- ---- before a token

-- what is read there: nothing if no token begins, and else what the tokens say
abbrev Reads : Bool → List Token → Option (List ℕ × List ℕ) → Type 0
Reads true tokens read = read ≡ None
Reads false tokens read = IsTokenRead tokens read

-- a token begins with this text
spells_text : (text : List ℕ) → Holds [] text text
unfolding word_of_token
spells_text text = record { before = []; spelled = refl; whole = refl }

-- at a byte with the given sign before a token, and after a backslash there
abbrev Begins : Sign → ℕ → List ℕ → Type 0
Begins s byte text =
    Reads (begins_no_token (s ∷ map sign text)) (cut between (s ∷ map sign text))
    (elim (next_state Before s) [
      | Some next ↦ posix_word_from next (word_after Before s [] (byte ∷ [])) text
      | None ↦ None
    ])

abbrev BeginsEscaped : Sign → ℕ → List ℕ → Type 0
BeginsEscaped s byte text =
    Reads (begins_no_token (backslash ∷ s ∷ map sign text)) (cut (at BeforeEscaped (after_piece [])) (s ∷ map sign text))
    (elim (next_state BeforeEscaped s) [
      | Some next ↦ posix_word_from next (word_after BeforeEscaped s [] (byte ∷ [])) text
      | None ↦ None
    ])

-- before a token begins, and after a backslash there
abbrev Starts : List ℕ → Type 0
Starts text = Reads (begins_no_token (map sign text)) (cut between (map sign text)) (posix_word_from Before [] text)

abbrev StartsEscaped : List ℕ → Type 0
StartsEscaped text = Reads (begins_no_token (backslash ∷ map sign text)) (cut (at BeforeEscaped (after_piece [])) (map sign text)) (posix_word_from BeforeEscaped [] text)

between_goes : (s : Sign) (text : List ℕ) → StartsEscaped text → Begins s (byte_of s) text
unfolding cut byte_of begins_no_token ends_token
between_goes (blank b) text starts = refl
between_goes line_feed text starts = refl
between_goes single_quote text starts = in_token text InSingle (in_piece [] []) [] tt (spells_text [])
between_goes double_quote text starts = in_token text InDouble (in_piece [] []) [] tt (spells_text [])
between_goes backslash text starts = starts
between_goes s text starts = in_token text Bare (in_piece [] (byte_of s ∷ [])) (byte_of s ∷ []) tt (spells_text (byte_of s ∷ []))

escaped_goes : (s : Sign) (text : List ℕ) → Starts text → BeginsEscaped s (byte_of s) text
unfolding cut byte_of begins_no_token ends_token
escaped_goes line_feed text starts = starts
escaped_goes s text starts = in_token text Bare (in_piece [] (byte_of s ∷ [])) (byte_of s ∷ []) tt (spells_text (byte_of s ∷ []))

-- both, by one induction
before_token : (text : List ℕ) → Starts text × StartsEscaped text
unfolding cut posix_word_from begins_no_token ends_token word_of_token
before_token [] = (refl, record { token = unclosed (ascii.backslash ∷ []) [] ∷ []; whole = refl; no_word = refl })
before_token (byte ∷ text) = (
  subst (λ b. Begins (sign byte) b text) (byte_of-sign byte) (between_goes (sign byte) text (before_token text).1),
  subst (λ b. BeginsEscaped (sign byte) b text) (byte_of-sign byte) (escaped_goes (sign byte) text (before_token text).0),
)

-- what is read at the start of a text agrees with its tokens
pub reads_first_token : (text : List ℕ) (read : Option (List ℕ × List ℕ)) → read ≡ posix_word_of text → ReadsFirstToken text read
unfolding posix_word_of posix_tokens
reads_first_token text read e = record {
  nothing = λ none. e ∙ subst (λ b. Reads b (posix_tokens text) (posix_word_of text)) none (before_token text).0;
  token = λ some. subst (IsTokenRead (posix_tokens text)) (sym e) (subst (λ b. Reads b (posix_tokens text) (posix_word_of text)) some (before_token text).0);
}
