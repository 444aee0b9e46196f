-- A list of names reads back to the names, whatever follows it.
use Rattle.std.proofs.Common.{◌≡◌, ℕ, suc, zero, ◌≤◌, true, List, [], ◌∷◌, ◌++◌, map, length, length-append, Option, Some, None, refl, ◌∙◌, ap, arith, append_assoc}
use Rattle.cc_base.specs.Found.{after}
use Rattle.cc_base.specs.Joined.{joined, joined_after}
use Rattle.cc_registrations.specs.Names.{listed_by, with_word, words_by}

-- a quoted word is read before a separator and before the text after the names, which begins with
-- neither a separator nor a word
pub record ReadsWords (quote meant : List ℕ → List ℕ) (reader : List ℕ → Option (List ℕ × List ℕ)) (between : List ℕ) (first : ℕ) (rest : List ℕ) : Type 0 where
  pub before_more : (word more : List ℕ) → reader (quote word ++ (between ++ more)) ≡ Some (meant word, between ++ more)
  pub before_end : (word : List ℕ) → reader (quote word ++ first ∷ rest) ≡ Some (meant word, first ∷ rest)
  pub skips : (more : List ℕ) → after between (between ++ more) ≡ Some more
  pub no_more : after between (first ∷ rest) ≡ None
  pub no_word : reader (first ∷ rest) ≡ None
  pub is_some : 1 ≤ length between

module _ {quote meant : List ℕ → List ℕ} {reader : List ℕ → Option (List ℕ × List ℕ)} {between : List ℕ} {first : ℕ} {rest : List ℕ} (reads : ReadsWords quote meant reader between first rest) where
  -- the names after the first one, and the text after them
  abbrev others : List (List ℕ) → List ℕ
  others names = joined_after between true (map quote names) ++ first ∷ rest

  abbrev parted : ℕ → List ℕ → List ℕ → Option (List ℕ) → Option (List (List ℕ) × List ℕ)
  parted most word left found = elim found [
    | Some more ↦ with_word word (words_by reader between most more)
    | None ↦ Some (word ∷ [], left)
  ]

  abbrev chosen : ℕ → List ℕ → Option (List ℕ × List ℕ) → Option (List (List ℕ) × List ℕ)
  chosen most text found = elim found [
    | None ↦ Some ([], text)
    | Some read ↦ parted most read.0 read.1 (after between read.1)
  ]

  words : (names : List (List ℕ)) (most : ℕ) → length names ≤ most → (word : List ℕ) → words_by reader between (suc most) (quote word ++ others names) ≡ Some (meant word ∷ map meant names, first ∷ rest)
  words [] most h word =
      ap (chosen most (quote word ++ first ∷ rest)) (reads.before_end word)
      ∙ ap (parted most (meant word) (first ∷ rest)) reads.no_more
  words (name ∷ names) zero h word = absurd (omega (arith, h))
  words (name ∷ names) (suc most) h word =
      let later = quote name ++ others names in
      ap (λ t. words_by reader between (suc (suc most)) (quote word ++ t))
      (append_assoc (between ++ quote name) (joined_after between true (map quote names)) (first ∷ rest)
      ∙ append_assoc between (quote name) (others names))
      ∙ ap (chosen (suc most) (quote word ++ (between ++ later))) (reads.before_more word later)
      ∙ ap (parted (suc most) (meant word) (between ++ later)) (reads.skips later)
      ∙ ap (with_word (meant word)) (words names most (omega (arith, h)) name)

  -- there are at most as many names as bytes
  fits : (names : List (List ℕ)) → suc (length names) ≤ length (others names)
  fits [] = omega arith
  fits (name ∷ names) =
      let all = length-append ((between ++ quote name) ++ joined_after between true (map quote names)) (first ∷ rest) in
      let front = length-append (between ++ quote name) (joined_after between true (map quote names)) in
      let one = length-append between (quote name) in
      let later = length-append (joined_after between true (map quote names)) (first ∷ rest) in
      let fewer = fits names in
      let some = reads.is_some in
      omega (arith, all, front, one, later, fewer, some)

  pub listed : (names : List (List ℕ)) → listed_by reader between (joined between (map quote names) ++ first ∷ rest) ≡ Some (map meant names, first ∷ rest)
  listed [] = ap (chosen (length rest) (first ∷ rest)) reads.no_word
  listed (word ∷ names) =
      ap (listed_by reader between) (append_assoc (quote word) (joined_after between true (map quote names)) (first ∷ rest))
      ∙ by_length (length (quote word ++ others names)) (let all = length-append (quote word) (others names) in let fewer = fits names in omega (arith, all, fewer))
    where
      by_length : (most : ℕ) → suc (length names) ≤ most → words_by reader between most (quote word ++ others names) ≡ Some (meant word ∷ map meant names, first ∷ rest)
      by_length zero h = absurd (omega (arith, h))
      by_length (suc most) h = words names most (omega (arith, h)) word

-- a list of texts, unchanged
pub map_same : (texts : List (List ℕ)) → map (λ text. text) texts ≡ texts
map_same [] = refl
map_same (text ∷ texts) = ap (λ ts. text ∷ ts) (map_same texts)
