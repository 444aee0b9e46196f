-- Texts as they are shown.
use Rattle.std.proofs.Common.{◌≡◌, ◌∙◌, ◌++◌, ◌<◌, ◌≤◌, ℕ, Bool, true, false, List, [], ◌∷◌, ap, append_assoc, arith, codes, encode_utf8, encode_utf8_all, if◌then◌else◌, length, map, nat_lt, sym, take}
use Rattle.std.proofs.lemmas.List.{append-nil, map-append}
use Rattle.std.proofs.lemmas.Bool.Decides.{nat_tests}
use Rattle.std.proofs.lemmas.Str.{encodes-append}
use Rattle.std.specs.Str.{chars}
use Rattle.cc_base.specs.Shown.{visible}
use Rattle.complgen_check.specs.Shown.{shown_text}

-- one character more
pub shown_more : (before : List ℕ) (done : List ℕ) (c : ℕ)
    → (before ++ encode_utf8_all (map visible done)) ++ encode_utf8 (visible c)
    ≡ before ++ encode_utf8_all (map visible (done ++ c ∷ []))
shown_more before done c = append_assoc before (encode_utf8_all (map visible done)) (encode_utf8 (visible c))
    ∙ ap (λ shown. before ++ shown)
    (ap (λ last. encode_utf8_all (map visible done) ++ last) (sym (append-nil (encode_utf8 (visible c))))
    ∙ sym (encodes-append (map visible done) (visible c ∷ []))
    ∙ ap encode_utf8_all (sym (map-append visible done (c ∷ []))))

-- whether a text is cut
cut : List ℕ → Bool → List ℕ
cut text long = encode_utf8_all (map visible (take 60 (chars text))) ++ (if long then codes ".." else [])

not_less : (m n : ℕ) → n ≤ m → nat_lt m n ≡ false
not_less m n le = grind (arith, nat_tests)

is_less : (m n : ℕ) → m < n → nat_lt m n ≡ true
is_less m n lt = grind (arith, nat_tests)

pub shown_short : (before text : List ℕ) (count : ℕ) → count ≡ length (chars text) → count ≤ 60
    → before ++ encode_utf8_all (map visible (take 60 (chars text))) ≡ before ++ shown_text text
unfolding cut
shown_short before text count is short =
    let le : length (chars text) ≤ 60 = omega arith in
    ap (λ shown. before ++ shown)
    (sym (ap (cut text) (not_less 60 (length (chars text)) le) ∙ append-nil _))

pub shown_long : (before text : List ℕ) (count : ℕ) → count ≡ length (chars text) → 60 < count
    → (before ++ encode_utf8_all (map visible (take 60 (chars text)))) ++ codes ".."
    ≡ before ++ shown_text text
unfolding cut
shown_long before text count is long =
    let lt : 60 < length (chars text) = omega arith in
    append_assoc before (encode_utf8_all (map visible (take 60 (chars text)))) (codes "..")
    ∙ ap (λ shown. before ++ shown) (sym (ap (cut text) (is_less 60 (length (chars text)) lt)))
