-- The cutting of a script for a POSIX shell, whatever follows the part that a lemma describes.
use Rattle.std.proofs.Common.{◌≡◌, ℕ, List, [], ◌∷◌, ◌++◌, map, ap, ◌∙◌, sym, append_assoc, append-nil, inl, inr, ◌⊎◌}
use Rattle.std.specs.List.{AllByRecursion}
use Rattle.cc_quote.specs.PosixSigns.{sign, byte_of}
use Rattle.cc_quote.specs.PosixTokens.{CutState, cut, between, in_bare, in_double}
use Rattle.cc_quote.specs.PosixSigns.Sign.{blank, other}
use Rattle.cc_quote.specs.Tokens.{Token}

-- no byte ends a token, opens quotes or escapes
abbrev pub IsOther : List ℕ → Type 0
IsOther text = AllByRecursion (λ byte. sign byte ≡ other byte) text

-- such a text, with at least one byte
abbrev pub IsWord : List ℕ → Type 0
IsWord [] = ⊥
IsWord (byte ∷ text) = IsOther (byte ∷ text)

-- double quotes keep each byte
abbrev pub IsKept : List ℕ → Type 0
IsKept text = AllByRecursion (λ byte. (sign byte ≡ other byte) ⊎ (sign byte ≡ blank byte)) text

-- the tokens from a state on
abbrev pub tokens_from : CutState → List ℕ → List Token
tokens_from state text = cut state (map sign text)

pub IsKept-IsOther : (text : List ℕ) → IsOther text → IsKept text
IsKept-IsOther [] h = tt
IsKept-IsOther (b ∷ text) h = (inl h.0, IsKept-IsOther text h.1)

pub IsKept-IsWord : (word : List ℕ) → IsWord word → IsKept word
IsKept-IsWord [] h = tt
IsKept-IsWord (b ∷ word) h = IsKept-IsOther (b ∷ word) h

pub IsKept-append : (text more : List ℕ) → IsKept text → IsKept more → IsKept (text ++ more)
IsKept-append [] more h k = k
IsKept-append (b ∷ text) more h k = (h.0, IsKept-append text more h.1 k)

-- a run of such bytes within a token
pub bare_run : (text rest : List ℕ) (pieces : Token) (run : List ℕ) → IsOther text →
    tokens_from (in_bare pieces run) (text ++ rest)
    ≡ tokens_from (in_bare pieces (run ++ text)) rest
unfolding cut byte_of
bare_run [] rest pieces run h = ap (λ r. tokens_from (in_bare pieces r) rest) (sym (append-nil run))
bare_run (b ∷ text) rest pieces run h =
    ap (λ s. cut (in_bare pieces run) (s ∷ map sign (text ++ rest))) h.0
    ∙ bare_run text rest pieces (run ++ b ∷ []) h.1
    ∙ ap (λ r. tokens_from (in_bare pieces r) rest) (append_assoc run (b ∷ []) text)

-- a word at a place where a token may begin
pub bare_word : (word rest : List ℕ) → IsWord word →
    tokens_from between (word ++ rest) ≡ tokens_from (in_bare [] word) rest
unfolding cut byte_of
bare_word [] rest h = absurd h
bare_word (b ∷ word) rest h =
    ap (λ s. cut between (s ∷ map sign (word ++ rest))) h.0 ∙ bare_run word rest [] (b ∷ []) h.1

-- a text within double quotes
pub double_run : (text rest : List ℕ) (pieces : Token) (run : List ℕ) → IsKept text →
    tokens_from (in_double pieces run) (text ++ rest)
    ≡ tokens_from (in_double pieces (run ++ text)) rest
unfolding cut byte_of
double_run [] rest pieces run h = ap (λ r. tokens_from (in_double pieces r) rest)
    (sym (append-nil run))
double_run (b ∷ text) rest pieces run (inl e, h) =
    ap (λ s. cut (in_double pieces run) (s ∷ map sign (text ++ rest))) e
    ∙ double_run text rest pieces (run ++ b ∷ []) h
    ∙ ap (λ r. tokens_from (in_double pieces r) rest) (append_assoc run (b ∷ []) text)
double_run (b ∷ text) rest pieces run (inr e, h) =
    ap (λ s. cut (in_double pieces run) (s ∷ map sign (text ++ rest))) e
    ∙ double_run text rest pieces (run ++ b ∷ []) h
    ∙ ap (λ r. tokens_from (in_double pieces r) rest) (append_assoc run (b ∷ []) text)
