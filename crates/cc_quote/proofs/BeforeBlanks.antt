-- Words of POSIX shells, Elvish, PowerShell and fish before a space, whatever follows it.
use Rattle.std.proofs.Common.{◌≡◌, ◌≢◌, ℕ, Bool, true, false, cond, List, [], ◌∷◌, ◌++◌, map, Some, None, codes, inl, inr, refl, sym, ◌∙◌, ap, arith, append_assoc}
use Rattle.std.specs.List.{list_all}
use Rattle.std.proofs.lemmas.Bool.{and_parts, cases_Bool}
use Rattle.std.proofs.lemmas.Bool.Decides.{nat_tests}
use Rattle.cc_quote.specs.Signs.{sign as quoting_sign}
use Rattle.cc_base.specs.Bytes.{is_blank, single_quote, line_feed, space, right_quote_first, right_quote_second, right_quote_third}
use Rattle.cc_base.specs.Found.{without_blanks}
use Rattle.cc_base.proofs.Finding.{no_blank_first}
use Rattle.cc_quote.specs.PosixSigns.{sign, byte_of}
use Rattle.cc_quote.specs.PosixSigns.Sign.{other}
use Rattle.cc_quote.specs.PosixQuote.{next_state, word_after, posix_word_from, posix_word_of, is_posix_safe, is_posix_safe_word, posix_escaped, posix_quoted}
use Rattle.cc_quote.specs.declared.posix.QuoteState.TheVariants.{Before, Bare}
use Rattle.cc_quote.specs.FishQuote.{fish_sign, begins_with_word, fish_word_from, fish_word_of, is_fish_safe, fish_quoted, bare}
use Rattle.std.specs.Str.{NonePass}
use Rattle.cc_quote.specs.ElvishQuote.{elvish_word_of}
use Rattle.cc_quote.specs.PowershellQuote.{powershell_signs, powershell_word_of}
use Rattle.cc_quote.proofs.ElvishWords.{elvish_begins_none, elvish_signs}
use Rattle.cc_quote.proofs.PowershellSigns.{powershell_begins_none, powershell_signs_are}
use Rattle.cc_quote.proofs.WordReading.{word_before_space}
use Rattle.cc_quote.proofs.PosixWords.{goes_on, safe_sign, bare_run, escaped_text}
use Rattle.cc_quote.proofs.FishWords.{safe_sign as fish_safe_sign, safe_bytes, fish_quoted_read}
use Rattle.cc_quote.proofs.FishReaders.{word_goes_on}

-- the text begins with a byte that is not whitespace
abbrev pub BeginsBare : List ℕ → Type 0
BeginsBare [] = ⊥
BeginsBare (byte ∷ text) = is_blank byte ≡ false

pub bare_first : (text : List ℕ) → BeginsBare text → without_blanks text ≡ text
bare_first [] h = absurd h
bare_first (byte ∷ text) h = no_blank_first byte text h

-- ---- POSIX shells

posix_safe_not_blank : (byte : ℕ) → is_posix_safe byte ≡ true → is_blank byte ≡ false
unfolding is_posix_safe
posix_safe_not_blank byte h = grind (arith, nat_tests)

-- a word, quoted if it needs quotes, before a byte at which it ends
module _ (end : ℕ) (rest : List ℕ)
    (ends : (word : List ℕ) → posix_word_from Bare word (end ∷ rest) ≡ Some (word, end ∷ rest)) where
  abbrev IsBefore : List ℕ → List ℕ → Type 0
  IsBefore spelled text = BeginsBare (spelled ++ end ∷ rest) × (posix_word_of (spelled ++ end ∷ rest) ≡ Some (text, end ∷ rest))

  safe_word : (text : List ℕ) → is_posix_safe_word text ≡ true → IsBefore text text
  unfolding posix_word_of is_posix_safe_word
  safe_word [] h = cc
  safe_word (byte ∷ text) h =
      let parts = and_parts (is_posix_safe byte) (list_all is_posix_safe text) h in
      let is : sign byte ≡ other byte = safe_sign byte parts.0 in (
        posix_safe_not_blank byte parts.0,
        goes_on Before Bare byte (text ++ end ∷ rest) [] (ap (next_state Before) is)
            ∙ ap (λ s. posix_word_from Bare (word_after Before s [] (byte ∷ [])) (text ++ end ∷ rest)) is
            ∙ bare_run text (end ∷ rest) (byte ∷ []) parts.1
            ∙ ends (byte ∷ text),
      )

  quoted_word : (text : List ℕ) → posix_word_of (codes "'" ++ (posix_escaped text ++ (codes "'" ++ end ∷ rest))) ≡ Some (text, end ∷ rest)
  unfolding posix_word_of posix_word_from sign byte_of
  quoted_word text = escaped_text text (single_quote ∷ end ∷ rest) [] ∙ ends text

  before : (text : List ℕ) → IsBefore (posix_quoted text) text
  unfolding posix_quoted
  before text = by_test (is_posix_safe_word text) refl
    where
      by_test : (safe : Bool) → is_posix_safe_word text ≡ safe → IsBefore (cond safe text (codes "'" ++ posix_escaped text ++ codes "'")) text
      by_test true is = safe_word text is
      by_test false is = (refl, ap (λ t. posix_word_of (single_quote ∷ t)) (append_assoc (posix_escaped text) (codes "'") (end ∷ rest)) ∙ quoted_word text)

-- a quoted word does not begin with whitespace, and is read up to the space
pub posix_before_space : (text rest : List ℕ) → BeginsBare (posix_quoted text ++ space ∷ rest) × (posix_word_of (posix_quoted text ++ space ∷ rest) ≡ Some (text, space ∷ rest))
unfolding posix_word_from sign byte_of
posix_before_space text rest = before space rest (λ word. refl) text

-- the same up to a line feed
pub posix_before_line_feed : (text rest : List ℕ) → BeginsBare (posix_quoted text ++ line_feed ∷ rest) × (posix_word_of (posix_quoted text ++ line_feed ∷ rest) ≡ Some (text, line_feed ∷ rest))
unfolding posix_word_from sign byte_of
posix_before_line_feed text rest = before line_feed rest (λ word. refl) text

-- ---- fish

fish_safe_not_blank : (byte : ℕ) → is_fish_safe byte ≡ true → is_blank byte ≡ false
unfolding is_fish_safe
fish_safe_not_blank byte h = grind (arith, nat_tests)

fish_begins : (text rest : List ℕ) → BeginsBare (fish_quoted text ++ rest) × (begins_with_word (fish_quoted text ++ rest) ≡ true)
unfolding fish_quoted fish_sign
fish_begins [] rest = (refl, refl)
fish_begins (byte ∷ text) rest = elim (cases_Bool (list_all is_fish_safe (byte ∷ text))) [
  | inl safe ↦ let bytes = safe_bytes (byte ∷ text) safe in rw safe (fish_safe_not_blank byte bytes.0, rw (fish_safe_sign byte bytes.0) refl)
  | inr unsafe ↦ rw unsafe (refl, refl)
]

pub fish_before_space : (text rest : List ℕ) → BeginsBare (fish_quoted text ++ space ∷ rest) × (fish_word_of (fish_quoted text ++ space ∷ rest) ≡ Some (text, space ∷ rest))
unfolding fish_sign
fish_before_space text rest = (
  (fish_begins text (space ∷ rest)).0,
  ap (λ b. cond b (fish_word_from (bare []) (fish_quoted text ++ space ∷ rest)) None) (fish_begins text (space ∷ rest)).1
      ∙ word_goes_on (fish_quoted text) (bare []) (bare text) (space ∷ rest) (fish_quoted_read text []),
)

-- ---- Elvish and PowerShell

safe_clear : (text : List ℕ) → list_all is_posix_safe text ≡ true → NonePass is_blank text
safe_clear [] h = tt
safe_clear (byte ∷ text) h =
    let parts = and_parts (is_posix_safe byte) (list_all is_posix_safe text) h in
    (posix_safe_not_blank byte parts.0, safe_clear text parts.1)

-- a byte that needs no quotes does not begin a quote
safe_no_quote : (byte special : ℕ) → is_posix_safe byte ≡ true → is_posix_safe special ≡ false → byte ≢ special
safe_no_quote byte special h k = λ same. let wrong : true ≡ false = sym h ∙ ap is_posix_safe same ∙ k in cc

first_byte : (a b : ℕ) (xs ys : List ℕ) → a ∷ xs ≡ b ∷ ys → a ≡ b
first_byte a b xs ys h = cc

-- a word that needs no quotes in a POSIX shell is a bare word of Elvish
pub elvish_before_space : (text rest : List ℕ) → is_posix_safe_word text ≡ true → BeginsBare (text ++ space ∷ rest) × (elvish_word_of (text ++ space ∷ rest) ≡ Some (text, space ∷ rest))
unfolding is_posix_safe_word is_posix_safe
elvish_before_space [] rest h = cc
elvish_before_space (byte ∷ text) rest h =
    let parts = and_parts (is_posix_safe byte) (list_all is_posix_safe text) h in
    let clear = safe_clear (byte ∷ text) h in (
      clear.0,
      word_before_space (map quoting_sign) elvish_signs byte text rest
          (elvish_begins_none (byte ∷ text ++ space ∷ rest) (λ more e. safe_no_quote byte single_quote parts.0 refl (first_byte byte single_quote (text ++ space ∷ rest) more e))) clear,
    )

-- the same for PowerShell
pub powershell_before_space : (text rest : List ℕ) → is_posix_safe_word text ≡ true → BeginsBare (text ++ space ∷ rest) × (powershell_word_of (text ++ space ∷ rest) ≡ Some (text, space ∷ rest))
unfolding is_posix_safe_word is_posix_safe
powershell_before_space [] rest h = cc
powershell_before_space (byte ∷ text) rest h =
    let parts = and_parts (is_posix_safe byte) (list_all is_posix_safe text) h in
    let clear = safe_clear (byte ∷ text) h in (
      clear.0,
      word_before_space powershell_signs powershell_signs_are byte text rest
          (powershell_begins_none (byte ∷ text ++ space ∷ rest)
          (λ more e. safe_no_quote byte single_quote parts.0 refl (first_byte byte single_quote (text ++ space ∷ rest) more e))
          (λ more e. safe_no_quote byte right_quote_first parts.0 refl (first_byte byte right_quote_first (text ++ space ∷ rest) (right_quote_second ∷ right_quote_third ∷ more) e))) clear,
    )
