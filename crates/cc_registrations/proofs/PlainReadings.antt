-- Outside quotes, a quoted word of bash, zsh or fish has only bytes that mean themselves.
use Rattle.std.proofs.Common.{◌≡◌, ◌==◌, ℕ, Bool, true, false, cond, List, [], ◌∷◌, ◌++◌, Option, Some, None, option_map, codes, inl, inr, refl, ◌∙◌, ap, arith, append_assoc}
use Rattle.std.specs.List.{list_all}
use Rattle.std.proofs.lemmas.Bool.{and_parts, cases_Bool}
use Rattle.std.proofs.lemmas.Bool.Decides.{nat_tests}
use Rattle.cc_base.specs.Bytes.{is_blank, line_feed, single_quote, space}
use Rattle.cc_base.specs.Found.{after, word_by}
use Rattle.cc_quote.specs.Escapes.{marked_byte}
use Rattle.cc_quote.specs.FishQuote.{fish_quoted, fish_sign, fish_word_of, is_fish_safe, is_single_marked, single_escaped, single_quoted}
use Rattle.cc_quote.specs.PosixQuote.{is_posix_safe, is_posix_safe_word, posix_escaped, posix_quoted, posix_word_from, posix_word_of}
use Rattle.cc_quote.specs.PosixSigns.{byte_of, sign}
use Rattle.cc_quote.proofs.BeforeBlanks.{bare_first, fish_before_space, posix_before_line_feed, posix_before_space}
use Rattle.cc_quote.proofs.FishWords.{IsSafe, safe_bytes}
use Rattle.cc_quote.proofs.PosixWords.{posix_escaped_byte}
use Rattle.cc_registrations.specs.PlainWords.{Place, fish_next_place, fish_plain_word, is_fish_plain, is_plain_from, is_posix_plain, posix_next_place, posix_plain_word, read_if}
use Rattle.cc_registrations.specs.PlainWords.Place.{outside, quoted}
use Rattle.cc_registrations.proofs.ListedNames.{ReadsWords}
use Rattle.cc_registrations.proofs.QuotedNames.{fish_before_line_feed}

module _ (next : Place → ℕ → Option Place) where
  -- a byte before which the word ends
  plain_end : (byte : ℕ) (text : List ℕ) → is_blank byte ≡ true → is_plain_from next outside (byte ∷ text) ≡ true
  unfolding is_plain_from
  plain_end byte text e =
      ap (λ b. elim b [
        | true ↦ true
        | false ↦ elim (next outside byte) [ Some following ↦ is_plain_from next following text | None ↦ false ]
      ]) e

  -- a byte that means itself, outside quotes
  plain_on : (byte : ℕ) (text : List ℕ) → is_blank byte ≡ false → next outside byte ≡ Some outside
      → is_plain_from next outside (byte ∷ text) ≡ is_plain_from next outside text
  unfolding is_plain_from
  plain_on byte text e h =
      ap (λ b. elim b [
        | true ↦ true
        | false ↦ elim (next outside byte) [ Some following ↦ is_plain_from next following text | None ↦ false ]
      ]) e
      ∙ ap (λ found. elim found [ Some following ↦ is_plain_from next following text | None ↦ false ]) h

-- ---- bash and zsh

posix_not_blank : (byte : ℕ) → is_posix_safe byte ≡ true → is_blank byte ≡ false
unfolding is_posix_safe
posix_not_blank byte h = grind (arith, nat_tests)

posix_stays : (byte : ℕ) → is_posix_safe byte ≡ true → posix_next_place outside byte ≡ Some outside
unfolding is_posix_safe posix_next_place is_posix_plain
posix_stays byte h = grind (arith, nat_tests)

posix_byte_plain : (byte : ℕ) (text : List ℕ) → is_plain_from posix_next_place quoted (posix_escaped_byte byte ++ text) ≡ is_plain_from posix_next_place quoted text
unfolding is_plain_from posix_next_place
posix_byte_plain byte text = by_test (byte == single_quote) refl
  where
    kept : (is : Bool) → byte == single_quote ≡ is → is ≡ false → is_plain_from posix_next_place quoted (byte ∷ text) ≡ is_plain_from posix_next_place quoted text
    kept is e h = ap (λ b. elim (cond b (Some outside) (Some quoted)) [ Some following ↦ is_plain_from posix_next_place following text | None ↦ false ]) (e ∙ h)

    by_test : (is : Bool) → byte == single_quote ≡ is → is_plain_from posix_next_place quoted (cond is (codes "'\\''") (byte ∷ []) ++ text) ≡ is_plain_from posix_next_place quoted text
    by_test true e = refl
    by_test false e = kept false e refl

posix_escaped_plain : (text rest : List ℕ) → is_plain_from posix_next_place quoted (posix_escaped text ++ rest) ≡ is_plain_from posix_next_place quoted rest
posix_escaped_plain [] rest = refl
posix_escaped_plain (byte ∷ text) rest =
    ap (is_plain_from posix_next_place quoted) (append_assoc (posix_escaped_byte byte) (posix_escaped text) rest)
    ∙ posix_byte_plain byte (posix_escaped text ++ rest)
    ∙ posix_escaped_plain text rest

-- a quoted word before whitespace
module _ (end : ℕ) (rest : List ℕ) (ends : is_blank end ≡ true) where
  posix_safe_plain : (text : List ℕ) → list_all is_posix_safe text ≡ true → is_plain_from posix_next_place outside (text ++ end ∷ rest) ≡ true
  posix_safe_plain [] h = plain_end posix_next_place end rest ends
  posix_safe_plain (byte ∷ text) h =
      let parts = and_parts (is_posix_safe byte) (list_all is_posix_safe text) h in
      plain_on posix_next_place byte (text ++ end ∷ rest) (posix_not_blank byte parts.0) (posix_stays byte parts.0) ∙ posix_safe_plain text parts.1

  posix_quotes_plain : (text : List ℕ) → is_plain_from posix_next_place outside ((codes "'" ++ posix_escaped text ++ codes "'") ++ end ∷ rest) ≡ true
  unfolding is_plain_from posix_next_place
  posix_quotes_plain text =
      ap (is_plain_from posix_next_place quoted) (append_assoc (posix_escaped text) (codes "'") (end ∷ rest))
      ∙ posix_escaped_plain text (single_quote ∷ end ∷ rest)
      ∙ plain_end posix_next_place end rest ends

  posix_quoted_plain : (text : List ℕ) → is_plain_from posix_next_place outside (posix_quoted text ++ end ∷ rest) ≡ true
  unfolding posix_quoted is_posix_safe_word
  posix_quoted_plain [] = posix_quotes_plain []
  posix_quoted_plain (byte ∷ text) = by_test (list_all is_posix_safe (byte ∷ text)) refl
    where
      by_test : (safe : Bool) → list_all is_posix_safe (byte ∷ text) ≡ safe
          → is_plain_from posix_next_place outside (cond safe (byte ∷ text) (codes "'" ++ posix_escaped (byte ∷ text) ++ codes "'") ++ end ∷ rest) ≡ true
      by_test true is = posix_safe_plain (byte ∷ text) is
      by_test false is = posix_quotes_plain (byte ∷ text)

-- so it is read
pub posix_plain_space : (text rest : List ℕ) → posix_plain_word (posix_quoted text ++ space ∷ rest) ≡ Some (text, space ∷ rest)
unfolding posix_plain_word
posix_plain_space text rest =
    ap (λ b. read_if b (posix_word_of (posix_quoted text ++ space ∷ rest))) (posix_quoted_plain space rest refl text)
    ∙ (posix_before_space text rest).1

pub posix_plain_line_feed : (text rest : List ℕ) → posix_plain_word (posix_quoted text ++ line_feed ∷ rest) ≡ Some (text, line_feed ∷ rest)
unfolding posix_plain_word
posix_plain_line_feed text rest =
    ap (λ b. read_if b (posix_word_of (posix_quoted text ++ line_feed ∷ rest))) (posix_quoted_plain line_feed rest refl text)
    ∙ (posix_before_line_feed text rest).1

-- a list of such words, up to the end of a line
pub posix_listed : (rest : List ℕ) → ReadsWords posix_quoted (λ text. text) posix_plain_word (codes " ") line_feed rest
unfolding after posix_plain_word posix_next_place is_plain_from posix_word_of posix_word_from sign byte_of
posix_listed rest = record {
  before_more = λ word more. posix_plain_space word more;
  before_end = λ word. posix_plain_line_feed word rest;
  skips = λ more. refl;
  no_more = refl;
  no_word = refl;
  is_some = omega arith;
}

-- one word
pub posix_word_by : (text rest : List ℕ) → word_by posix_plain_word (posix_quoted text ++ space ∷ rest) ≡ Some text
unfolding word_by
posix_word_by text rest =
    ap (λ spelled. option_map (λ read. read.0) (posix_plain_word spelled)) (bare_first (posix_quoted text ++ space ∷ rest) (posix_before_space text rest).0)
    ∙ ap (option_map (λ read. read.0)) (posix_plain_space text rest)

-- ---- fish

fish_not_blank : (byte : ℕ) → is_fish_safe byte ≡ true → is_blank byte ≡ false
unfolding is_fish_safe
fish_not_blank byte h = grind (arith, nat_tests)

fish_stays : (byte : ℕ) → is_fish_safe byte ≡ true → fish_next_place outside byte ≡ Some outside
unfolding is_fish_safe fish_next_place is_fish_plain
fish_stays byte h = grind (arith, nat_tests)

fish_byte_plain : (byte : ℕ) (text : List ℕ) → is_plain_from fish_next_place quoted (marked_byte is_single_marked byte ++ text) ≡ is_plain_from fish_next_place quoted text
unfolding is_plain_from fish_next_place
fish_byte_plain byte text = grind (arith, nat_tests)

fish_escaped_plain : (text rest : List ℕ) → is_plain_from fish_next_place quoted (single_escaped text ++ rest) ≡ is_plain_from fish_next_place quoted rest
fish_escaped_plain [] rest = refl
fish_escaped_plain (byte ∷ text) rest =
    ap (is_plain_from fish_next_place quoted) (append_assoc (marked_byte is_single_marked byte) (single_escaped text) rest)
    ∙ fish_byte_plain byte (single_escaped text ++ rest)
    ∙ fish_escaped_plain text rest

module _ (end : ℕ) (rest : List ℕ) (ends : is_blank end ≡ true) where
  fish_safe_plain : (text : List ℕ) → IsSafe text → is_plain_from fish_next_place outside (text ++ end ∷ rest) ≡ true
  fish_safe_plain [] h = plain_end fish_next_place end rest ends
  fish_safe_plain (byte ∷ text) h =
      plain_on fish_next_place byte (text ++ end ∷ rest) (fish_not_blank byte h.0) (fish_stays byte h.0) ∙ fish_safe_plain text h.1

  fish_quotes_plain : (text : List ℕ) → is_plain_from fish_next_place outside (single_quoted text ++ end ∷ rest) ≡ true
  unfolding is_plain_from fish_next_place
  fish_quotes_plain text =
      ap (is_plain_from fish_next_place quoted) (append_assoc (single_escaped text) (codes "'") (end ∷ rest))
      ∙ fish_escaped_plain text (single_quote ∷ end ∷ rest)
      ∙ plain_end fish_next_place end rest ends

  fish_quoted_plain : (text : List ℕ) → is_plain_from fish_next_place outside (fish_quoted text ++ end ∷ rest) ≡ true
  unfolding fish_quoted
  fish_quoted_plain [] = fish_quotes_plain []
  fish_quoted_plain (byte ∷ text) = elim (cases_Bool (list_all is_fish_safe (byte ∷ text))) [
    | inl safe ↦ rw safe (fish_safe_plain (byte ∷ text) (safe_bytes (byte ∷ text) safe))
    | inr unsafe ↦ rw unsafe (fish_quotes_plain (byte ∷ text))
  ]

pub fish_plain_space : (text rest : List ℕ) → fish_plain_word (fish_quoted text ++ space ∷ rest) ≡ Some (text, space ∷ rest)
unfolding fish_plain_word
fish_plain_space text rest =
    ap (λ b. read_if b (fish_word_of (fish_quoted text ++ space ∷ rest))) (fish_quoted_plain space rest refl text)
    ∙ (fish_before_space text rest).1

pub fish_plain_line_feed : (text rest : List ℕ) → fish_plain_word (fish_quoted text ++ line_feed ∷ rest) ≡ Some (text, line_feed ∷ rest)
unfolding fish_plain_word
fish_plain_line_feed text rest =
    ap (λ b. read_if b (fish_word_of (fish_quoted text ++ line_feed ∷ rest))) (fish_quoted_plain line_feed rest refl text)
    ∙ fish_before_line_feed text rest

pub fish_listed : (rest : List ℕ) → ReadsWords fish_quoted (λ text. text) fish_plain_word (codes " --command ") line_feed rest
unfolding after fish_plain_word fish_next_place is_plain_from fish_sign
fish_listed rest = record {
  before_more = λ word more. fish_plain_space word (codes "--command " ++ more);
  before_end = λ word. fish_plain_line_feed word rest;
  skips = λ more. refl;
  no_more = refl;
  no_word = refl;
  is_some = omega arith;
}

pub fish_word_by : (text rest : List ℕ) → word_by fish_plain_word (fish_quoted text ++ space ∷ rest) ≡ Some text
unfolding word_by
fish_word_by text rest =
    ap (λ spelled. option_map (λ read. read.0) (fish_plain_word spelled)) (bare_first (fish_quoted text ++ space ∷ rest) (fish_before_space text rest).0)
    ∙ ap (option_map (λ read. read.0)) (fish_plain_space text rest)
