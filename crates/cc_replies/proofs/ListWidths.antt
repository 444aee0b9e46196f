-- The columns beside the words of a list.
use Rattle.std.proofs.Common.{◌≡◌, ◌≤◌, ◌<◌, ◌+◌, ◌-◌, ◌&&◌, min, max, suc, zero, ℕ, Bool, true, false, cond, List, [], ◌∷◌, ◌++◌, Some, None, map, filter, flat_map, length, get_or, drop, refl, sym, ◌∙◌, ap, arith, drop-cons}
use Rattle.std.proofs.Math.ListN.{drop_of_length-le}
use Rattle.std.specs.Fmt.{char_count}
use Rattle.std.specs.Prelude.{◌==◌, nat_le}
use Rattle.cc_base.specs.Found.{after}
use Rattle.cc_candidates.specs.declared.candidate.CompletionCandidate.{CompletionCandidate}
use Rattle.cc_quote.specs.Escapes.{marked}
use Rattle.cc_replies.specs.BashList.{bash_list_reply, closed_word, closing_quote, greatest, has_two, is_listed_word, list_line, list_room, longest_word, width_left}
use Rattle.cc_replies.specs.BashWords.{Cursor, bash_text, bash_words_reply, home_start, is_bare_marked, is_bash_insertable, start_text}
use Rattle.cc_replies.proofs.Characters.{char_count-nil, left_after_both}

-- a bare word that begins with `~/`
pub start_left : (left middle last : ℕ) (word below : List ℕ) → Some below ≡ after home_start word → middle ≡ left - char_count home_start
    → last ≡ middle - char_count (marked is_bare_marked below) → last ≡ left - char_count (start_text word)
unfolding start_text
start_left left middle last word below found e f =
    f ∙ ap (λ n. n - char_count (marked is_bare_marked below)) e
    ∙ left_after_both left home_start (marked is_bare_marked below)
    ∙ ap (λ found. left - char_count (elim found [ Some below ↦ home_start ++ marked is_bare_marked below | None ↦ marked is_bare_marked word ])) found

-- a word with the quote at its end
pub closed_left : (cursor : Cursor) (left middle last : ℕ) (value rest : List ℕ) → Some rest ≡ after cursor.kept value
    → middle ≡ left - char_count (bash_text cursor.kept cursor.quote rest) → last ≡ middle - char_count (closing_quote cursor.quote) → last ≡ left - char_count (closed_word cursor value)
unfolding closed_word
closed_left cursor left middle last value rest found e f =
    f ∙ ap (λ n. n - char_count (closing_quote cursor.quote)) e
    ∙ left_after_both left (bash_text cursor.kept cursor.quote rest) (closing_quote cursor.quote)
    ∙ ap (λ found. left - char_count (elim found [ Some rest ↦ bash_text cursor.kept cursor.quote rest ++ closing_quote cursor.quote | None ↦ [] ])) found

pub unclosed_left : (cursor : Cursor) (left : ℕ) (value : List ℕ) → None ≡ after cursor.kept value → left ≡ left - char_count (closed_word cursor value)
unfolding closed_word
unclosed_left cursor left value found =
    let none : char_count [] ≡ char_count (closed_word cursor value) = ap (λ found. char_count (elim found [ Some rest ↦ bash_text cursor.kept cursor.quote rest ++ closing_quote cursor.quote | None ↦ [] ])) found in
    omega (arith, none, char_count-nil)

-- ---- the longest word

module _ {X : Type 0} (test : X → Bool) (size : X → ℕ) where
  abbrev most : List X → ℕ
  most xs = greatest (map size (filter test xs))

  pub most_end : (xs : List X) (i : ℕ) → length xs ≤ i → most (drop i xs) ≡ 0
  most_end xs i past = ap most (drop_of_length-le xs past)

  most_next : (x : X) (xs : List X) (b : Bool) → test x ≡ b → most (x ∷ xs) ≡ cond b (max (size x) (most xs)) (most xs)
  most_next x xs true e = ap (λ b. greatest (map size (cond b (x ∷ filter test xs) (filter test xs)))) e
  most_next x xs false e = ap (λ b. greatest (map size (cond b (x ∷ filter test xs) (filter test xs)))) e

  at_index : (xs : List X) (i : ℕ) (x : X) → i < length xs → x ≡ get_or xs i x → drop i xs ≡ x ∷ drop (i + 1) xs
  at_index xs i x within is =
      drop-cons xs i x within ∙ ap (λ y. y ∷ drop (suc i) xs) (sym is) ∙ ap (λ k. x ∷ drop k xs) {x = suc i} {y = i + 1} (omega arith)

  module _ (width least : ℕ) (xs : List X) (i : ℕ) (x : X) (within : i < length xs) (is : x ≡ get_or xs i x) where
    -- an item that is not measured
    pub passed_over : test x ≡ false → min least (width - most (drop (i + 1) xs)) ≡ min least (width - most (drop i xs))
    passed_over e = ap (λ n. min least (width - n)) (sym (ap most (at_index xs i x within is) ∙ most_next x (drop (i + 1) xs) false e))

    pub measured : (fewer : ℕ) → test x ≡ true → fewer ≡ min least (width - size x)
        → min fewer (width - most (drop (i + 1) xs)) ≡ min least (width - most (drop i xs))
    measured fewer e f =
        let next : most (drop i xs) ≡ max (size x) (most (drop (i + 1) xs)) = ap most (at_index xs i x within is) ∙ most_next x (drop (i + 1) xs) true e in
        least_of fewer (most (drop (i + 1) xs)) (most (drop i xs)) (size x) f next
      where
        least_of : (fewer rest all n : ℕ) → fewer ≡ min least (width - n) → all ≡ max n rest → min fewer (width - rest) ≡ min least (width - all)
        least_of fewer rest all n e f = omega (arith, e, f)

pub least_first : (width longest : ℕ) → min width (width - longest) ≡ width - longest
least_first width longest = omega arith

-- ---- the whole list

-- a room is the width that is left beside the longest word
real_room : (wide : Bool) (left : ℕ) → (cond wide left 0 == 0) ≡ false → cond wide left 0 ≡ left
real_room true left e = refl
real_room false left e = cc

longest_again : (width longest room left : ℕ) → room ≡ width - (longest + 4) → left ≡ width - 4 - room → 0 < room → left ≡ longest
longest_again width longest room left e f some = omega (arith, e, f, some)

some_room : (room : ℕ) → (room == 0) ≡ false → 0 < room
some_room zero e = cc
some_room (suc room) e = omega arith

pub list_text : (cursor : Cursor) (candidates : List CompletionCandidate) (room longest : ℕ)
    → room ≡ list_room cursor candidates → (room == 0) ≡ false → longest ≡ cursor.width - 4 - room
    → flat_map (list_line cursor longest room) (filter (λ candidate. is_bash_insertable cursor candidate.value) candidates)
    ≡ bash_list_reply cursor candidates
list_text cursor candidates room longest same some e =
    let most : ℕ = longest_word cursor candidates in
    let whole : ℕ = list_room cursor candidates in
    let left : ℕ = width_left cursor candidates in
    let wide : Bool = nat_le 22 left && has_two (is_listed_word cursor) candidates in
    let has : (whole == 0) ≡ false = ap (λ n. n == 0) (sym same) ∙ some in
    ap (λ n. lines n room) (longest_again cursor.width most room longest (same ∙ real_room wide left has) e (some_room room some))
    ∙ ap (lines most) same
    ∙ sym (ap (λ b. cond b (bash_words_reply cursor candidates) (lines most whole)) has)
  where
    lines : ℕ → ℕ → List ℕ
    lines longest room = flat_map (list_line cursor longest room) (filter (λ candidate. is_bash_insertable cursor candidate.value) candidates)
