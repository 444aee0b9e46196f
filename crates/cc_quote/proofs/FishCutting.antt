-- The cutting of a fish script into the words of its commands, whatever follows the part that a
-- lemma describes.
use Rattle.std.proofs.Common.{◌≡◌, ℕ, List, [], ◌∷◌, ◌++◌, refl, ap, ◌∙◌, sym, append_assoc, append-nil, inl, inr, ◌⊎◌, Some, None, IsTrue, flat_map}
use Rattle.std.specs.List.{AllByRecursion}
use Rattle.cc_base.specs.Bytes as ascii
use Rattle.cc_quote.specs.FishQuote.{FishSign, FishState, fish_sign, next_state, advance, begins_word, begins_with_word, bare}
use Rattle.cc_quote.specs.FishQuote.FishSign.{blank, line_feed, hash}
use Rattle.cc_quote.specs.FishTokens.{between, in_word, commands_from}
use Rattle.cc_quote.proofs.FishWords.{IsSafe, safe_bare}
use Rattle.cc_base.proofs.Cases.{option_cases}
use Rattle.cc_quote.proofs.FishReaders.{advance_none}

-- a word ends before the text
abbrev pub EndsWord : List ℕ → Type 0
EndsWord [] = ⊥
EndsWord (byte ∷ bytes) = (fish_sign byte ≡ blank) ⊎ (fish_sign byte ≡ line_feed)

-- a word continues over a text that leads from one state to another
pub word_goes_on : (text : List ℕ) (words : List (List ℕ)) (from to : FishState) (rest : List ℕ) → advance (Some from) text ≡ Some to
    → commands_from (in_word words from) (text ++ rest) ≡ commands_from (in_word words to) rest
word_goes_on [] words from to rest h = let same : from ≡ to = cc in ap (λ state. commands_from (in_word words state) rest) same
word_goes_on (byte ∷ text) words from to rest h = elim (option_cases (next_state from byte)) [
  | inl found ↦ rw (commands_from, found.1) (word_goes_on text words found.0 to rest (ap (λ state. advance state text) (sym found.1) ∙ h))
  | inr none ↦ absurd (let stops : None ≡ Some to = sym (advance_none text) ∙ ap (λ state. advance state text) (sym none) ∙ h in cc)
]

-- bytes that need no quotes, in a word outside quotes
pub safe_goes_on : (text : List ℕ) (words : List (List ℕ)) (word rest : List ℕ) → IsSafe text
    → commands_from (in_word words (bare word)) (text ++ rest) ≡ commands_from (in_word words (bare (word ++ text))) rest
safe_goes_on text words word rest h = word_goes_on text words (bare word) (bare (word ++ text)) rest (safe_bare text word h)

-- a word ends
pub word_ends : (words : List (List ℕ)) (word rest : List ℕ) → EndsWord rest → commands_from (in_word words (bare word)) rest ≡ commands_from (between (words ++ word ∷ [])) rest
word_ends words word [] h = absurd h
word_ends words word (byte ∷ rest) h = elim h [
  | inl is ↦ rw (commands_from, next_state, is, is)
  | inr is ↦ rw (commands_from, next_state, is, is)
]

-- a word begins
pub word_begins : (text : List ℕ) (words : List (List ℕ)) (rest : List ℕ) → IsTrue (begins_with_word text)
    → commands_from (between words) (text ++ rest) ≡ commands_from (in_word words (bare [])) (text ++ rest)
word_begins [] words rest h = cc
word_begins (byte ∷ text) words rest h = by (fish_sign byte) refl h
  where
    by : (sign : FishSign) → fish_sign byte ≡ sign → IsTrue (begins_word sign) → commands_from (between words) (byte ∷ (text ++ rest)) ≡ commands_from (in_word words (bare [])) (byte ∷ (text ++ rest))
    by blank e h = cc
    by line_feed e h = cc
    by hash e h = cc
    by sign e h = rw (commands_from, e, next_state, e, e)

-- the text spells the word
pub record Spells (text word : List ℕ) : Type 0 where
  pub begins : IsTrue (begins_with_word text)
  pub spells : advance (Some (bare [])) text ≡ Some (bare word)

pub word_read : (text word : List ℕ) (words : List (List ℕ)) (rest : List ℕ) → Spells text word
    → commands_from (between words) (text ++ rest) ≡ commands_from (in_word words (bare word)) rest
word_read text word words rest is = word_begins text words rest is.begins ∙ word_goes_on text words (bare []) (bare word) rest is.spells

-- the text is empty or begins with a space or a tab, and adds words to a command
pub record Adds (text : List ℕ) (words : List (List ℕ)) : Type 0 where
  pub ends : (rest : List ℕ) → EndsWord rest → EndsWord (text ++ rest)
  pub read : (before : List (List ℕ)) (rest : List ℕ) → EndsWord rest → commands_from (between before) (text ++ rest) ≡ commands_from (between (before ++ words)) rest

pub adds_none : Adds [] []
adds_none = record { ends = λ rest h. h; read = λ before rest h. rw append-nil }

pub adds_word : (text word : List ℕ) → Spells text word → Adds (ascii.space ∷ text) (word ∷ [])
unfolding fish_sign
adds_word text word is = record {
  ends = λ rest h. inl refl;
  read = λ before rest h. word_read text word before rest is ∙ word_ends before word rest h;
}

pub adds_append : (a b : List ℕ) (us vs : List (List ℕ)) → Adds a us → Adds b vs → Adds (a ++ b) (us ++ vs)
adds_append a b us vs h k = record {
  ends = λ rest e. rw append_assoc (h.ends (b ++ rest) (k.ends rest e));
  read = λ before rest e.
      ap (commands_from (between before)) (append_assoc a b rest) ∙ h.read before (b ++ rest) (k.ends rest e) ∙ k.read (before ++ us) rest e
      ∙ ap (λ words. commands_from (between words) rest) (append_assoc before us vs);
}

pub adds_flat_map : {X : Type 0} (P : X → Type 0) (text : X → List ℕ) (words : X → List (List ℕ)) → ((x : X) → P x → Adds (text x) (words x)) → (xs : List X) → AllByRecursion P xs
    → Adds (flat_map text xs) (flat_map words xs)
adds_flat_map P text words each [] h = adds_none
adds_flat_map P text words each (x ∷ xs) (h, hs) = adds_append (text x) (flat_map text xs) (words x) (flat_map words xs) (each x h) (adds_flat_map P text words each xs hs)

-- a command is read up to its line feed
pub command_read : (first word text : List ℕ) (words : List (List ℕ)) (rest : List ℕ) → Spells first word → Adds text words
    → commands_from (between []) (first ++ (text ++ ascii.line_feed ∷ rest)) ≡ Some (word ∷ words) ∷ commands_from (between []) rest
unfolding fish_sign
command_read first word text words rest is adds =
    word_read first word [] (text ++ ascii.line_feed ∷ rest) is
    ∙ word_ends [] word (text ++ ascii.line_feed ∷ rest) (adds.ends (ascii.line_feed ∷ rest) (inr refl))
    ∙ adds.read (word ∷ []) (ascii.line_feed ∷ rest) (inr refl)
