-- The lines of bash's list with a description fit the terminal.
use Rattle.std.proofs.Common.{◌≡◌, ◌==◌, ◌≤◌, ◌<◌, ◌+◌, ◌-◌, ◌&&◌, ℕ, zero, suc, Bool, true, false, cond, List, [], ◌∷◌, ◌++◌, map, replicate, codes, inl, inr, refl, ◌∙◌, ap, arith}
use Rattle.std.proofs.lemmas.Bool.Decides.{nat_tests}
use Rattle.std.specs.Fmt.{char_count, is_char_start, take_chars}
use Rattle.std.specs.Prelude.{nat_le, nat_lt}
use Rattle.cc_base.proofs.Members.{IsIn}
use Rattle.cc_replies.specs.BashList.{cut_description, described_text, greatest, space}
use Rattle.cc_replies.proofs.Characters.{char_count-append, char_count-cons, char_count-nil}

-- a number of the list is at most the greatest
pub most_of : {X : Type 0} (size : X → ℕ) (xs : List X) (x : X) → IsIn xs x → size x ≤ greatest (map size xs)
most_of size [] x h = absurd h
most_of size (y ∷ xs) x (inl same) = let e : size y ≡ size x = ap size same in omega (arith, e)
most_of size (y ∷ xs) x (inr h) = let below = most_of size xs x h in omega (arith, below)

-- ---- the characters of the parts

spaces_count : (count : ℕ) → char_count (replicate count space) ≡ count
unfolding char_count
spaces_count zero = refl
spaces_count (suc count) = let below = spaces_count count in omega (arith, below)

-- the first characters are as many at most
taken_count : (n : ℕ) (text : List ℕ) → char_count (take_chars n text) ≤ n
unfolding take_chars
taken_count n [] = omega (arith, char_count-nil)
taken_count n (byte ∷ text) = by (is_char_start byte) (n == 0) refl refl (taken_count (n - 1) text) (taken_count n text)
  where
    by : (starts none : Bool) → is_char_start byte ≡ starts → n == 0 ≡ none → char_count (take_chars (n - 1) text) ≤ n - 1 → char_count (take_chars n text) ≤ n
        → char_count (cond starts (cond none [] (byte ∷ take_chars (n - 1) text)) (byte ∷ take_chars n text)) ≤ n
    by true true is e fewer same = omega (arith, char_count-nil)
    by true false is e fewer same =
        let some : 0 < n = grind (arith, nat_tests) in
        let one = char_count-cons byte (take_chars (n - 1) text) ∙ ap (λ b. cond b 1 0 + char_count (take_chars (n - 1) text)) is in
        omega (arith, one, some, fewer)
    by false none is e fewer same =
        let one = char_count-cons byte (take_chars n text) ∙ ap (λ b. cond b 1 0 + char_count (take_chars n text)) is in
        omega (arith, one, same)

dots_count : char_count (codes "..") ≡ 2
unfolding char_count
dots_count = refl

-- a cut description fits the room
cut_fits : (room : ℕ) (description : List ℕ) → 2 ≤ room → char_count (cut_description room description) ≤ room
cut_fits room description some = by_test (nat_lt room (char_count description)) refl
  where
    by_test : (b : Bool) → nat_lt room (char_count description) ≡ b → char_count (cond b (take_chars (room - 2) description ++ codes "..") description) ≤ room
    by_test true e =
        omega (arith, some, char_count-append (take_chars (room - 2) description) (codes ".."), dots_count, taken_count (room - 2) description)
    by_test false e = grind (arith, nat_tests)

frame_counts : (char_count (codes "  (") ≡ 3) × (char_count (codes ")") ≡ 1)
unfolding char_count
frame_counts = (refl, refl)

-- a word, and a description in its column
described_count : (word description : List ℕ) (longest : ℕ) → char_count word ≤ longest
    → char_count (described_text word longest description) ≡ longest + 4 + char_count description
described_count word description longest fits =
    let spaces : List ℕ = replicate (longest - char_count word) space in
    omega (
      arith,
      fits,
      char_count-append (word ++ spaces ++ codes "  (" ++ description) (codes ")"),
      char_count-append (word ++ spaces ++ codes "  (") description,
      char_count-append (word ++ spaces) (codes "  ("),
      char_count-append word spaces,
      spaces_count (longest - char_count word),
      frame_counts.0,
      frame_counts.1,
    )

-- ---- a line

-- a line, without its line feed
pub line_fits : (width longest room : ℕ) (word description body : List ℕ)
    → body ++ codes "\n" ≡ described_text word longest (cut_description room description) ++ codes "\n"
    → char_count word ≤ longest → 22 ≤ room → room ≡ width - (longest + 4) → char_count body ≤ width
line_fits width longest room word description body same fits some is =
    let cut : List ℕ = cut_description room description in
    let both : char_count (body ++ codes "\n") ≡ char_count (described_text word longest cut ++ codes "\n") = ap char_count same in
    omega (
      arith,
      fits,
      some,
      is,
      both,
      char_count-append body (codes "\n"),
      char_count-append (described_text word longest cut) (codes "\n"),
      described_count word cut longest fits,
      cut_fits room description (omega (arith, some)),
    )

-- a room that is not 0 is all that is left of the width, and at least 22 columns
pub room_is : (left : ℕ) (two : Bool) → (cond (nat_le 22 left && two) left 0 == 0) ≡ false
    → (cond (nat_le 22 left && two) left 0 ≡ left) × (22 ≤ left)
room_is left two h = by_tests (nat_le 22 left) two refl h
  where
    by_tests : (wide two : Bool) → nat_le 22 left ≡ wide → (cond (wide && two) left 0 == 0) ≡ false → (cond (wide && two) left 0 ≡ left) × (22 ≤ left)
    by_tests true true e h = (refl, grind (arith, nat_tests))
    by_tests true false e h = cc
    by_tests false true e h = cc
    by_tests false false e h = cc
