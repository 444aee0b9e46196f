-- The readers of fish's words recover what was quoted.
use Rattle.std.proofs.Common.{◌≡◌, ℕ, List, [], ◌∷◌, ◌++◌, refl, ap, ◌∙◌, sym, append_assoc, append-nil, inl, inr, Option, Some, None, option_map, codes, arith}
use Rattle.std.proofs.lemmas.Bool.{cases_Bool}
use Rattle.std.proofs.lemmas.Bool.Decides.{nat_tests}
use Rattle.std.specs.List.{list_all}
use Rattle.cc_base.proofs.Cases.{option_cases}
use Rattle.cc_quote.specs.QuotedWord.{line_feeds_as_spaces}
use Rattle.cc_quote.specs.Escapes.{marked_byte}
use Rattle.cc_quote.specs.FishQuote.{FishState, fish_sign, advance, fish_word_from, fish_word_of, fish_double_from, fish_double_of, is_fish_safe, is_double_marked, double_escaped, single_quoted, fish_quoted, fish_quoted_for_eval, fish_help_for_eval_of, fish_escaped, ReadsTwice, bare, in_double, fish_next, fish_added, is_bare}
use Rattle.cc_quote.specs.FishQuote.FishState.{at}
use Rattle.cc_quote.specs.WordReader.{ended}
use Rattle.cc_quote.specs.declared.fish_reader.QuoteState.{QuoteState}
use Rattle.cc_quote.proofs.FishEscaped.{fish_escaped_composed}
use Rattle.cc_quote.proofs.FishWords.{safe_sign, safe_bytes, single_quoted_read, fish_quoted_read}

pub advance_none : (bytes : List ℕ) → advance None bytes ≡ None
advance_none [] = refl
advance_none (byte ∷ bytes) = refl

-- the reader of a word continues after bytes that lead from one state to another
pub word_goes_on : (bytes : List ℕ) (from to : FishState) (rest : List ℕ) → advance (Some from) bytes ≡ Some to → fish_word_from from (bytes ++ rest) ≡ fish_word_from to rest
word_goes_on [] from to rest h = let same : from ≡ to = cc in ap (λ state. fish_word_from state rest) same
word_goes_on (byte ∷ bytes) (at state word) to rest h =
    let then : List ℕ = fish_added state byte word (byte ∷ []) in
    let advanced : Option QuoteState → Option FishState = λ after. advance (option_map (λ next. at next then) after) bytes in
    elim (option_cases (fish_next state byte)) [
      | inl found ↦
          ap (λ after. elim after [
            | Some next ↦ fish_word_from (at next then) (bytes ++ rest)
            | None ↦ ended (is_bare state) word (byte ∷ (bytes ++ rest))
          ]) found.1
          ∙ word_goes_on bytes (at found.0 then) to rest (ap advanced (sym found.1) ∙ h)
      | inr none ↦ absurd (let stops : None ≡ Some to = sym (advance_none bytes) ∙ ap advanced (sym none) ∙ h in cc)
    ]

-- a text that spells a word is read as that word
spelled_word : (bytes word : List ℕ) → advance (Some (bare [])) bytes ≡ Some (bare word) → fish_word_from (bare []) bytes ≡ Some (word, [])
spelled_word bytes word h = ap (fish_word_from (bare [])) (sym (append-nil bytes)) ∙ word_goes_on bytes (bare []) (bare word) [] h

-- a text in `'`
pub single_quoted_reads_back : (text : List ℕ) → fish_word_of (single_quoted text) ≡ Some (text, [])
unfolding fish_sign
single_quoted_reads_back text = spelled_word (single_quoted text) text (single_quoted_read text [])

-- a quoted text is read back, and nothing remains
pub fish_quoted_reads_back : (text : List ℕ) → fish_word_of (fish_quoted text) ≡ Some (text, [])
unfolding fish_quoted
fish_quoted_reads_back [] = single_quoted_reads_back []
fish_quoted_reads_back (byte ∷ text) = elim (cases_Bool (list_all is_fish_safe (byte ∷ text))) [
  | inl safe ↦ rw safe (let bytes = safe_bytes (byte ∷ text) safe in rw (safe_sign byte bytes.0) (rw safe at (spelled_word (fish_quoted (byte ∷ text)) (byte ∷ text) (fish_quoted_read (byte ∷ text) []))))
  | inr unsafe ↦ rw unsafe (single_quoted_reads_back (byte ∷ text))
]

double_byte_from : (byte : ℕ) (word rest : List ℕ) → fish_double_from (in_double word) (marked_byte is_double_marked byte ++ rest) ≡ fish_double_from (in_double (word ++ byte ∷ [])) rest
unfolding fish_sign
double_byte_from byte word rest = grind (arith, nat_tests)

pub double_from : (text word rest : List ℕ) → fish_double_from (in_double word) (double_escaped text ++ rest) ≡ fish_double_from (in_double (word ++ text)) rest
double_from [] word rest = rw append-nil
double_from (byte ∷ text) word rest =
    ap (fish_double_from (in_double word)) (append_assoc (marked_byte is_double_marked byte) (double_escaped text) rest)
    ∙ double_byte_from byte word (double_escaped text ++ rest)
    ∙ double_from text (word ++ byte ∷ []) rest
    ∙ ap (λ whole. fish_double_from (in_double whole) rest) (append_assoc word (byte ∷ []) text)

-- an escaped text between `"` is read back
pub double_escaped_reads_back : (text : List ℕ) → fish_double_of (codes "\"" ++ double_escaped text ++ codes "\"") ≡ Some (text, [])
unfolding fish_sign
double_escaped_reads_back text = double_from text [] (codes "\"")

-- a text quoted to be read twice
pub quoted_for_eval_reads_twice : (text : List ℕ) → ReadsTwice (fish_quoted_for_eval text) text
unfolding fish_quoted_for_eval
quoted_for_eval_reads_twice text = record {
  between = fish_quoted text;
  first = double_escaped_reads_back (fish_quoted text);
  second = fish_quoted_reads_back text;
}

-- a help text quoted to be read twice
pub help_for_eval_reads_twice : (help : List ℕ) → ReadsTwice (fish_help_for_eval_of help) (line_feeds_as_spaces help)
unfolding fish_help_for_eval_of
help_for_eval_reads_twice help = record {
  between = single_quoted (line_feeds_as_spaces help);
  first = double_escaped_reads_back (single_quoted (line_feeds_as_spaces help));
  second = single_quoted_reads_back (line_feeds_as_spaces help);
}

-- a description between two `'`
pub fish_escaped_reads_back : (text : List ℕ) → fish_word_of (codes "'" ++ fish_escaped text ++ codes "'") ≡ Some (line_feeds_as_spaces text, [])
fish_escaped_reads_back text =
    ap (λ escaped. fish_word_of (codes "'" ++ escaped ++ codes "'")) (fish_escaped_composed text) ∙ single_quoted_reads_back (line_feeds_as_spaces text)
