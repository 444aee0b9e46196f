-- The first line of a text.
use Rattle.cc_base.specs.Bytes.{line_feed}
use Rattle.std.proofs.Common.{◌≡◌, ◌≢◌, ◌==◌, ℕ, true, false, suc, ◌<◌, List, [], ◌∷◌, ◌++◌, Bor, Option, Some, None, unwrap_or, get_or, length, refl, sym, ◌∙◌, ap, subst, arith, append-nil}
use Rattle.std.specs.List.{AllByRecursion}
use Rattle.std.specs.Option.{MatchOption}
use Rattle.std.proofs.lemmas.Bool.{ne_eqb, cases_Bool}
use Rattle.std.proofs.lemmas.Bool.Decides.{Decides-eqb}
use Rattle.std.proofs.Common.{inl, inr}
use Rattle.cc_base.specs.Found.{after, with_front, cut_at}
use Rattle.cc_replies.specs.Reply.{carriage_return, without_return, first_line}
use Rattle.cc_base.proofs.Finding.{Cut, Lacks, after-none, cut_at-none, past_lacking}

return_off : (line : List ℕ) → without_return (line ++ carriage_return ∷ []) ≡ line
unfolding without_return
return_off (byte ∷ next ∷ line) = ap (λ t. byte ∷ t) (return_off (next ∷ line))
return_off _ = refl

no_return : (line : List ℕ) → ((front : List ℕ) → line ≢ front ++ carriage_return ∷ []) → without_return line ≡ line
unfolding without_return
no_return [] h = refl
no_return (byte ∷ []) h = elim (cases_Bool (byte == carriage_return)) [
  | inl is ↦ absurd (h [] (ap (λ b. b ∷ []) ((Decides-eqb byte carriage_return).0 is)))
  | inr isnt ↦ rw (without_return, isnt) refl
]
no_return (byte ∷ next ∷ line) h = ap (λ t. byte ∷ t) (no_return (next ∷ line) (λ front e. h (byte ∷ front) (ap (λ t. byte ∷ t) e)))

-- what a search for a carriage return at the end leaves of the line
pub return_cut : (line : Bor (List ℕ)) (found : Option (Bor (List ℕ)))
    → MatchOption found ((front : List ℕ) → line.now ≢ front ++ carriage_return ∷ []) (λ front. line.now ≡ front.now ++ carriage_return ∷ [])
    → (unwrap_or found line).now ≡ without_return line.now
return_cut line (Some front) is = sym (ap without_return is ∙ return_off front.now)
return_cut line None isnt = sym (no_return line.now isnt)

-- a text without the byte at any index lacks the byte
pub lacks_by_index : (special : ℕ) (text : List ℕ) → ((k : ℕ) → k < length text → get_or text k 0 ≢ special) → Lacks special text
lacks_by_index special [] h = tt
lacks_by_index special (byte ∷ text) h = (ne_eqb special byte (λ e. h 0 (omega arith) (sym e)), lacks_by_index special text (λ k l. h (suc k) (omega arith)))

-- a text with a line feed
pub line_cut : (line rest : List ℕ) → Lacks line_feed line → first_line (line ++ line_feed ∷ rest) ≡ without_return line
unfolding first_line after with_front cut_at
line_cut line rest h =
    ap (λ cut. elim cut [ Some (line, rest) ↦ without_return line | None ↦ line ++ line_feed ∷ rest ]) (past_lacking line_feed [] line (line_feed ∷ rest) h)
    ∙ ap without_return (append-nil line)

-- a text without a line feed
pub whole_line : (text : List ℕ) → Lacks line_feed text → first_line text ≡ text
unfolding first_line with_front cut_at
whole_line text h =
    ap (λ cut. elim cut [ Some (line, rest) ↦ without_return line | None ↦ text ])
    (ap (cut_at (line_feed ∷ [])) (sym (append-nil text)) ∙ past_lacking line_feed [] text [] h)

-- ---- a first line has no line feed

-- no byte of the text is this one
abbrev pub IsWithout : ℕ → List ℕ → Type 0
IsWithout special text = AllByRecursion (λ byte. (byte == special) ≡ false) text

-- equality of numbers in the other direction
pub other_side : (one other : ℕ) → (one == other) ≡ false → (other == one) ≡ false
other_side one other e =
    ne_eqb other one (λ same. let both : true ≡ false = sym ((Decides-eqb one other).1 (sym same)) ∙ e in cc)

-- the text before a line feed, or the whole text without a line feed
abbrev IsBeforeFeed : List ℕ → Cut → Type 0
IsBeforeFeed text None = IsWithout line_feed text
IsBeforeFeed text (Some (line, rest)) = IsWithout line_feed line

one_more : (byte : ℕ) (text : List ℕ) (cut : Cut) → (byte == line_feed) ≡ false → IsBeforeFeed text cut → IsBeforeFeed (byte ∷ text) (with_front (byte ∷ []) cut)
unfolding with_front
one_more byte text None e h = (e, h)
one_more byte text (Some (line, rest)) e h = (e, h)

before_feed : (text : List ℕ) → IsBeforeFeed text (cut_at (line_feed ∷ []) text)
unfolding after cut_at
before_feed [] = tt
before_feed (byte ∷ text) = elim (cases_Bool (line_feed == byte)) [
  | inl is ↦ let cut : cut_at (line_feed ∷ []) (byte ∷ text) ≡ Some ([], text) = rw (cut_at, after, is) refl in
      subst (IsBeforeFeed (byte ∷ text)) (sym cut) tt
  | inr isnt ↦ subst (IsBeforeFeed (byte ∷ text)) (sym (cut_at-none (line_feed ∷ []) text byte (after-none line_feed byte [] text isnt)))
      (one_more byte text (cut_at (line_feed ∷ []) text) (other_side line_feed byte isnt) (before_feed text))
]

return_keeps : (line : List ℕ) → IsWithout line_feed line → IsWithout line_feed (without_return line)
unfolding without_return
return_keeps [] h = tt
return_keeps (byte ∷ []) h = elim (cases_Bool (byte == carriage_return)) [ inl is ↦ rw (without_return, is) tt | inr isnt ↦ rw (without_return, isnt) h ]
return_keeps (byte ∷ next ∷ line) h = (h.0, return_keeps (next ∷ line) h.1)

pub first_line_without : (text : List ℕ) → IsWithout line_feed (first_line text)
unfolding first_line
first_line_without text = by_cut (cut_at (line_feed ∷ []) text) (before_feed text)
  where
    by_cut : (cut : Cut) → IsBeforeFeed text cut → IsWithout line_feed (elim cut [ Some (line, rest) ↦ without_return line | None ↦ text ])
    by_cut None h = h
    by_cut (Some (line, rest)) h = return_keeps line h
