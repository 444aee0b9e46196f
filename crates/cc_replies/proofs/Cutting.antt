-- A text is cut at a mark, and whitespace is cut off.
use Rattle.std.proofs.Common.{◌≡◌, ◌==◌, ◌≤◌, ◌<◌, ◌+◌, ℕ, true, false, List, [], ◌∷◌, ◌++◌, length, take, drop, get_or, Option, Some, None, inl, inr, refl, sym, ◌∙◌, ap, subst, arith, append_assoc, append-nil, reverse}
use Rattle.std.proofs.lemmas.Bool.{eq-eqb}
use Rattle.std.proofs.lemmas.Bool.Decides.{eqb_tells}
use Rattle.std.proofs.lemmas.List.{drop_all, drop_more, nil_from_length, reverse-append, reverse-reverse, take_more}
use Rattle.cc_base.proofs.Cases.{choose}
use Rattle.cc_base.proofs.Finding.{Cut, after-none, cut_at-none, no_blank_first, with_front-append, with_front-nil}
use Rattle.cc_base.specs.Bytes.{is_blank, line_feed}
use Rattle.cc_base.specs.Found.{after, cut_at, pieces_from, with_front, without_blanks}
use Rattle.cc_replies.specs.GivenLines.{without_last_blanks}
use Rattle.cc_replies.proofs.FirstLines.{other_side}

-- ---- the first occurrence of a mark

-- the mark begins at none of the first bytes
abbrev pub IsLeft : List ℕ → List ℕ → ℕ → Type 0
IsLeft mark text at = cut_at mark text ≡ with_front (take at text) (cut_at mark (drop at text))

pub cut_start : (mark text : List ℕ) → IsLeft mark text 0
cut_start mark text = sym (with_front-nil (cut_at mark text))

pub cut_more : (mark text : List ℕ) (at : ℕ) → at < length text → after mark (drop at text) ≡ None → IsLeft mark text at → IsLeft mark text (at + 1)
cut_more mark text at below none left =
    let byte = get_or text at 0 in
    let rest = drop (at + 1) text in
    let here : drop at text ≡ byte ∷ rest = drop_more text at 0 below in
    left ∙ ap (λ t. with_front (take at text) (cut_at mark t)) here
    ∙ ap (with_front (take at text)) (cut_at-none mark rest byte (ap (after mark) (sym here) ∙ none))
    ∙ with_front-append (take at text) (byte ∷ []) (cut_at mark rest)
    ∙ ap (λ front. with_front front (cut_at mark rest)) (sym (take_more text at 0 below))

-- the search at a byte at which the mark begins
found_here : (mark text rest : List ℕ) (byte : ℕ) → after mark (byte ∷ text) ≡ Some rest → cut_at mark (byte ∷ text) ≡ Some ([], rest)
unfolding cut_at
found_here mark text rest byte found =
    ap (λ (f : Option (List ℕ)). elim f [ Some rest ↦ Some ([], rest) | None ↦ with_front (byte ∷ []) (cut_at mark text) ]) found

cut_there : (front rest : List ℕ) → with_front front (Some ([], rest)) ≡ Some (front, rest)
unfolding with_front
cut_there front rest = ap (λ f. Some (f, rest)) (append-nil front)

pub cut_found : (mark text rest : List ℕ) (at : ℕ) → at < length text → after mark (drop at text) ≡ Some rest → IsLeft mark text at → cut_at mark text ≡ Some (take at text, rest)
cut_found mark text rest at below found left =
    let here : drop at text ≡ get_or text at 0 ∷ drop (at + 1) text = drop_more text at 0 below in
    left ∙ ap (λ t. with_front (take at text) (cut_at mark t)) here
    ∙ ap (with_front (take at text)) (found_here mark (drop (at + 1) text) rest (get_or text at 0) (ap (after mark) (sym here) ∙ found))
    ∙ cut_there (take at text) rest

none_left : (mark front : List ℕ) → with_front front (cut_at mark []) ≡ None
unfolding cut_at with_front
none_left mark front = refl

pub cut_end : (mark text : List ℕ) (at : ℕ) → length text ≤ at → IsLeft mark text at → cut_at mark text ≡ None
cut_end mark text at over left = left ∙ ap (λ t. with_front (take at text) (cut_at mark t)) (drop_all at text over) ∙ none_left mark (take at text)

-- ---- lines

abbrev by_cut : List ℕ → List ℕ → Cut → List (List ℕ)
by_cut piece text None = (piece ++ text) ∷ []
by_cut piece text (Some (line, rest)) = (piece ++ line) ∷ pieces_from line_feed [] rest

longer_piece : (piece text : List ℕ) (byte : ℕ) (cut : Cut) → by_cut (piece ++ byte ∷ []) text cut ≡ by_cut piece (byte ∷ text) (with_front (byte ∷ []) cut)
unfolding with_front
longer_piece piece text byte None = ap (λ p. p ∷ []) (append_assoc piece (byte ∷ []) text)
longer_piece piece text byte (Some (line, rest)) = ap (λ p. p ∷ pieces_from line_feed [] rest) (append_assoc piece (byte ∷ []) line)

feed_here : (byte : ℕ) (text : List ℕ) → (line_feed == byte) ≡ true → after (line_feed ∷ []) (byte ∷ text) ≡ Some text
unfolding after
feed_here byte text e = rw (after, e) refl

pieces_cut : (piece text : List ℕ) → pieces_from line_feed piece text ≡ by_cut piece text (cut_at (line_feed ∷ []) text)
unfolding cut_at
pieces_cut piece [] = ap (λ p. p ∷ []) (sym (append-nil piece))
pieces_cut piece (byte ∷ text) = elim (eqb_tells byte line_feed) [
  | inl feed ↦
      ap (λ b. choose b (piece ∷ pieces_from line_feed [] text) (pieces_from line_feed (piece ++ byte ∷ []) text)) feed.0
      ∙ ap (λ p. p ∷ pieces_from line_feed [] text) (sym (append-nil piece))
      ∙ ap (by_cut piece (byte ∷ text)) (sym (found_here (line_feed ∷ []) text text byte (feed_here byte text (eq-eqb line_feed byte (sym feed.1)))))
  | inr other ↦
      ap (λ b. choose b (piece ∷ pieces_from line_feed [] text) (pieces_from line_feed (piece ++ byte ∷ []) text)) other.0
      ∙ pieces_cut (piece ++ byte ∷ []) text
      ∙ longer_piece piece text byte (cut_at (line_feed ∷ []) text)
      ∙ ap (by_cut piece (byte ∷ text)) (sym (cut_at-none (line_feed ∷ []) text byte (after-none line_feed byte [] text (other_side byte line_feed other.0))))
]

-- the first line of a text that has a line feed, and the only line of one without
pub line_more : (text line rest : List ℕ) → cut_at (line_feed ∷ []) text ≡ Some (line, rest) → pieces_from line_feed [] text ≡ line ∷ pieces_from line_feed [] rest
line_more text line rest cut = pieces_cut [] text ∙ ap (by_cut [] text) cut

pub line_last : (text : List ℕ) → cut_at (line_feed ∷ []) text ≡ None → pieces_from line_feed [] text ≡ text ∷ []
line_last text cut = pieces_cut [] text ∙ ap (by_cut [] text) cut

-- the rest after a line is shorter than the text
abbrev IsShorter : List ℕ → Cut → Type 0
IsShorter text None = Unit {0}
IsShorter text (Some (line, rest)) = length rest < length text

shorter_by_one : (text : List ℕ) (byte : ℕ) (cut : Cut) → IsShorter text cut → IsShorter (byte ∷ text) (with_front (byte ∷ []) cut)
unfolding with_front
shorter_by_one text byte None h = tt
shorter_by_one text byte (Some (line, rest)) h = omega (arith, h)

cut_shorter : (text : List ℕ) → IsShorter text (cut_at (line_feed ∷ []) text)
unfolding cut_at
cut_shorter [] = tt
cut_shorter (byte ∷ text) = elim (eqb_tells line_feed byte) [
  | inl feed ↦ subst (IsShorter (byte ∷ text)) (sym (found_here (line_feed ∷ []) text text byte (feed_here byte text feed.0))) (omega arith)
  | inr other ↦
      subst (IsShorter (byte ∷ text)) (sym (cut_at-none (line_feed ∷ []) text byte (after-none line_feed byte [] text other.0)))
      (shorter_by_one text byte (cut_at (line_feed ∷ []) text) (cut_shorter text))
]

pub rest_shorter : (text line rest : List ℕ) → cut_at (line_feed ∷ []) text ≡ Some (line, rest) → length rest < length text
rest_shorter text line rest cut = subst (IsShorter text) cut (cut_shorter text)

-- ---- whitespace at the start

first_blank : (byte : ℕ) (text : List ℕ) → is_blank byte ≡ true → without_blanks (byte ∷ text) ≡ without_blanks text
unfolding without_blanks
first_blank byte text h = ap (λ b. choose b (without_blanks text) (byte ∷ text)) h

pub blanks_on : (text rest whole : List ℕ) (byte : ℕ) → text ≡ byte ∷ rest → is_blank byte ≡ true → without_blanks text ≡ whole → without_blanks rest ≡ whole
blanks_on text rest whole byte is blank h = sym (first_blank byte rest blank) ∙ ap without_blanks (sym is) ∙ h

pub blanks_stop : (text rest whole : List ℕ) (byte : ℕ) → text ≡ byte ∷ rest → is_blank byte ≡ false → without_blanks text ≡ whole → text ≡ whole
blanks_stop text rest whole byte is other h = is ∙ sym (no_blank_first byte rest other) ∙ ap without_blanks (sym is) ∙ h

pub blanks_end : (text whole : List ℕ) → length text ≡ 0 → without_blanks text ≡ whole → text ≡ whole
unfolding without_blanks
blanks_end text whole none h = let nil : text ≡ [] = nil_from_length text none in nil ∙ sym (ap without_blanks nil) ∙ h

-- ---- and at the end

turned : (text rest : List ℕ) (byte : ℕ) → text ≡ rest ++ byte ∷ [] → reverse text ≡ byte ∷ reverse rest
turned text rest byte is = ap (λ t. reverse t) is ∙ reverse-append rest (byte ∷ [])

pub last_blanks_on : (text rest whole : List ℕ) (byte : ℕ) → text ≡ rest ++ byte ∷ [] → is_blank byte ≡ true → without_last_blanks text ≡ whole → without_last_blanks rest ≡ whole
unfolding without_last_blanks
last_blanks_on text rest whole byte is blank h =
    ap (λ t. reverse t) (sym (first_blank byte (reverse rest) blank) ∙ ap without_blanks (sym (turned text rest byte is))) ∙ h

pub last_blanks_stop : (text rest whole : List ℕ) (byte : ℕ) → text ≡ rest ++ byte ∷ [] → is_blank byte ≡ false → without_last_blanks text ≡ whole → text ≡ whole
unfolding without_last_blanks
last_blanks_stop text rest whole byte is other h =
    sym (reverse-reverse text)
    ∙ ap (λ t. reverse t) (turned text rest byte is ∙ sym (no_blank_first byte (reverse rest) other) ∙ ap without_blanks (sym (turned text rest byte is)))
    ∙ h

pub last_blanks_end : (text whole : List ℕ) → length text ≡ 0 → without_last_blanks text ≡ whole → text ≡ whole
unfolding without_last_blanks without_blanks
last_blanks_end text whole none h = let nil : text ≡ [] = nil_from_length text none in nil ∙ sym (ap without_last_blanks nil) ∙ h
