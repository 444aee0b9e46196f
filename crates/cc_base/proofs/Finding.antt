-- A search for a mark passes over a text that lacks its first byte, and over one in which the mark
-- begins at no byte.
use Rattle.std.specs.Prelude.{bytes_eq}
use Rattle.std.proofs.Common.{◌≡◌, ◌≢◌, ◌==◌, ℕ, Bool, true, false, cond, List, [], ◌∷◌, ◌++◌, Option, Some, None, inl, inr, refl, sym, ◌∙◌, ap, append_assoc, append-nil}
use Rattle.std.specs.List.{AllByRecursion}
use Rattle.cc_base.specs.Bytes.{is_blank, line_feed, space}
use Rattle.cc_base.proofs.Cases.{option_cases, choose}
use Rattle.cc_base.specs.Found.{after, with_front, cut_at, without_blanks, after_last_from, ended, words_from, before_last}

abbrev pub Cut : Type 0
Cut = Option (List ℕ × List ℕ)

-- no byte of the text is the given one
abbrev pub Lacks : ℕ → List ℕ → Type 0
Lacks special text = AllByRecursion (λ byte. (special == byte) ≡ false) text

-- no byte of the text passes the test
abbrev pub NonePasses : (ℕ → Bool) → List ℕ → Type 0
NonePasses passes text = AllByRecursion (λ byte. passes byte ≡ false) text

pub with_front-nil : (cut : Cut) → with_front [] cut ≡ cut
unfolding with_front
with_front-nil None = refl
with_front-nil (Some (before, rest)) = refl

pub with_front-append : (front more : List ℕ) (cut : Cut) → with_front front (with_front more cut) ≡ with_front (front ++ more) cut
unfolding with_front
with_front-append front more None = refl
with_front-append front more (Some (before, rest)) = ap (λ t. Some (t, rest)) (sym (append_assoc front more before))

-- the search, one byte further
abbrev cut_step : ℕ → Option (List ℕ) → Cut → Cut
cut_step byte found later = elim found [
  | Some rest ↦ Some ([], rest)
  | None ↦ with_front (byte ∷ []) later
]

pub cut_at-none : (mark text : List ℕ) (byte : ℕ) → after mark (byte ∷ text) ≡ None → cut_at mark (byte ∷ text) ≡ with_front (byte ∷ []) (cut_at mark text)
unfolding cut_at
cut_at-none mark text byte e = ap (λ found. cut_step byte found (cut_at mark text)) e

pub after-none : (first byte : ℕ) (mark text : List ℕ) → (first == byte) ≡ false → after (first ∷ mark) (byte ∷ text) ≡ None
unfolding after
after-none first byte mark text e = rw (after, e) refl

-- the search passes over a text that lacks the mark's first byte
pub past_lacking : (first : ℕ) (mark text rest : List ℕ) → Lacks first text → cut_at (first ∷ mark) (text ++ rest) ≡ with_front text (cut_at (first ∷ mark) rest)
past_lacking first mark [] rest h = sym (with_front-nil (cut_at (first ∷ mark) rest))
past_lacking first mark (byte ∷ text) rest h =
    cut_at-none (first ∷ mark) (text ++ rest) byte (after-none first byte mark (text ++ rest) h.0)
    ∙ ap (with_front (byte ∷ [])) (past_lacking first mark text rest h.1)
    ∙ with_front-append (byte ∷ []) text (cut_at (first ∷ mark) rest)

-- whether the mark begins at no byte of a text, given what follows it
abbrev pub is_free : List ℕ → List ℕ → List ℕ → Bool
is_free mark [] rest = true
is_free mark (byte ∷ text) rest = elim (after mark (byte ∷ text ++ rest)) [
  | Some _ ↦ false
  | None ↦ is_free mark text rest
]

abbrev free_step : Bool → Option (List ℕ) → Bool
free_step later found = elim found [ Some _ ↦ false | None ↦ later ]

-- the search passes over a text in which the mark begins at no byte
pub past_free : (mark text rest : List ℕ) → is_free mark text rest ≡ true → cut_at mark (text ++ rest) ≡ with_front text (cut_at mark rest)
past_free mark [] rest h = sym (with_front-nil (cut_at mark rest))
past_free mark (byte ∷ text) rest h = elim (option_cases (after mark (byte ∷ text ++ rest))) [
  | inl found ↦ absurd (let both : false ≡ true = sym (ap (free_step (is_free mark text rest)) found.1) ∙ h in cc)
  | inr none ↦
      cut_at-none mark (text ++ rest) byte none
      ∙ ap (with_front (byte ∷ [])) (past_free mark text rest (sym (ap (free_step (is_free mark text rest)) none) ∙ h))
      ∙ with_front-append (byte ∷ []) text (cut_at mark rest)
]

-- ---- what follows the last byte that passes

pub run_on : (passes : ℕ → Bool) (run text rest : List ℕ) → NonePasses passes text → after_last_from passes run (text ++ rest) ≡ after_last_from passes (run ++ text) rest
unfolding after_last_from
run_on passes run [] rest h = ap (λ r. after_last_from passes r rest) (sym (append-nil run))
run_on passes run (byte ∷ text) rest h =
    ap (λ b. choose b (after_last_from passes [] (text ++ rest)) (after_last_from passes (run ++ byte ∷ []) (text ++ rest))) h.0
    ∙ run_on passes (run ++ byte ∷ []) text rest h.1
    ∙ ap (λ r. after_last_from passes r rest) (append_assoc run (byte ∷ []) text)

-- a text without whitespace, and one that does not begin with whitespace
pub no_blanks : (text : List ℕ) → NonePasses is_blank text → without_blanks text ≡ text
unfolding without_blanks
no_blanks [] h = refl
no_blanks (byte ∷ text) h = ap (λ b. choose b (without_blanks text) (byte ∷ text)) h.0

pub no_blank_first : (byte : ℕ) (text : List ℕ) → is_blank byte ≡ false → without_blanks (byte ∷ text) ≡ byte ∷ text
unfolding without_blanks
no_blank_first byte text h = ap (λ b. choose b (without_blanks text) (byte ∷ text)) h

-- ---- words

ended-append : (word : List ℕ) (words more : List (List ℕ)) → ended word (words ++ more) ≡ ended word words ++ more
unfolding ended
ended-append [] words more = refl
ended-append (byte ∷ word) words more = refl

word_on : (word text rest : List ℕ) → NonePasses is_blank text → words_from word (text ++ rest) ≡ words_from (word ++ text) rest
unfolding words_from
word_on word [] rest h = ap (λ w. words_from w rest) (sym (append-nil word))
word_on word (byte ∷ text) rest h =
    ap (λ b. choose b (ended word (words_from [] (text ++ rest))) (words_from (word ++ byte ∷ []) (text ++ rest))) h.0
    ∙ word_on (word ++ byte ∷ []) text rest h.1
    ∙ ap (λ w. words_from w rest) (append_assoc word (byte ∷ []) text)

words-append : (word text rest : List ℕ) → words_from word (text ++ space ∷ rest) ≡ words_from word text ++ words_from [] rest
unfolding words_from
words-append word [] rest = ended-append word [] (words_from [] rest)
words-append word (byte ∷ text) rest = by_test (is_blank byte) (words-append [] text rest) (words-append (word ++ byte ∷ []) text rest)
  where
    by_test : (blank : Bool) → words_from [] (text ++ space ∷ rest) ≡ words_from [] text ++ words_from [] rest
        → words_from (word ++ byte ∷ []) (text ++ space ∷ rest) ≡ words_from (word ++ byte ∷ []) text ++ words_from [] rest
        → choose blank (ended word (words_from [] (text ++ space ∷ rest))) (words_from (word ++ byte ∷ []) (text ++ space ∷ rest))
        ≡ choose blank (ended word (words_from [] text)) (words_from (word ++ byte ∷ []) text) ++ words_from [] rest
    by_test true e f = ap (ended word) e ∙ ended-append word (words_from [] text) (words_from [] rest)
    by_test false e f = f

before_last-append : (last word : List ℕ) (words : List (List ℕ)) → bytes_eq last last ≡ true → before_last last (words ++ word ∷ last ∷ []) ≡ Some word
unfolding before_last
before_last-append last word (first ∷ second ∷ third ∷ words) h = before_last-append last word (second ∷ third ∷ words) h
before_last-append last word words h = ap (λ b. cond b (Some word) None) h

-- the last word before `fi`
pub before_fi : (front word : List ℕ) → NonePasses is_blank word → word ≢ [] → before_last (102 ∷ 105 ∷ []) (words_from [] (front ++ space ∷ (word ++ line_feed ∷ 102 ∷ 105 ∷ line_feed ∷ line_feed ∷ []))) ≡ Some word
unfolding words_from ended
before_fi front [] h some = absurd (some refl)
before_fi front (byte ∷ word) h some =
    ap (before_last (102 ∷ 105 ∷ [])) (words-append [] front ((byte ∷ word) ++ line_feed ∷ 102 ∷ 105 ∷ line_feed ∷ line_feed ∷ [])
    ∙ ap (λ ws. words_from [] front ++ ws) (word_on [] (byte ∷ word) (line_feed ∷ 102 ∷ 105 ∷ line_feed ∷ line_feed ∷ []) h))
    ∙ before_last-append (102 ∷ 105 ∷ []) (byte ∷ word) (words_from [] front) refl
