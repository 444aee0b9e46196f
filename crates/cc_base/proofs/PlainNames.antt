-- A plain name, read byte by byte.
use Rattle.std.proofs.Common.{◌≡◌, ℕ, ◌+◌, ◌<◌, ◌≤◌, List, [], ◌∷◌, length, drop, get_or, Bool, true, false, ◌&&◌, ◌||◌, cond, ◌==◌, map, refl, ap, sym, ◌∙◌}
use Rattle.std.proofs.lemmas.List.{at_drop_more, at_drop_all}
use Rattle.std.specs.Char.{is_ascii_alphanumeric}
use Rattle.cc_base.specs.Bytes.{dash, underscore}
use Rattle.cc_base.specs.PlainName.{NameByte, letter, joiner, foreign, name_byte, is_joined, is_plain_name}

-- the remaining bytes of a name are joined, given whether a letter comes before them
unfoldable pub joined_after : Bool → List NameByte → Bool
joined_after true bytes = is_joined (letter ∷ bytes)
joined_after false bytes = is_joined bytes

-- the same for bytes
abbrev pub plain_after : Bool → List ℕ → Bool
plain_after follows bytes = joined_after follows (map name_byte bytes)

pub plain_after_start : (bytes : List ℕ) → plain_after false bytes ≡ is_plain_name bytes
unfolding joined_after is_plain_name
plain_after_start bytes = refl

pub plain_after_end : (follows : Bool) → plain_after follows [] ≡ follows
unfolding joined_after is_joined
plain_after_end true = refl
plain_after_end false = refl

joined_after-kind : (follows is_letter is_joiner : Bool) (bytes : List NameByte) →
    joined_after follows (cond is_letter letter (cond is_joiner joiner foreign) ∷ bytes) ≡ ((is_letter || (follows && is_joiner)) && joined_after is_letter bytes)
unfolding joined_after is_joined
joined_after-kind true true is_joiner bytes = refl
joined_after-kind false true is_joiner bytes = refl
joined_after-kind true false true bytes = refl
joined_after-kind false false true bytes = refl
joined_after-kind true false false bytes = refl
joined_after-kind false false false bytes = refl

-- one byte further: the byte may come there, and the rest is joined after it
pub plain_after_more : (follows : Bool) (byte : ℕ) (bytes : List ℕ) →
    plain_after follows (byte ∷ bytes) ≡
    ((is_ascii_alphanumeric byte || (follows && (byte == dash || byte == underscore))) && plain_after (is_ascii_alphanumeric byte) bytes)
unfolding name_byte
plain_after_more follows byte bytes = joined_after-kind follows (is_ascii_alphanumeric byte) (byte == dash || byte == underscore) (map name_byte bytes)

-- whether a byte may come in a name, given whether a letter comes before it
abbrev pub may_follow : ℕ → Bool → Bool
may_follow byte after_letter = is_ascii_alphanumeric byte || (after_letter && (byte == dash || byte == underscore))

plain_after-at : (follows : Bool) (bytes : List ℕ) (i : ℕ) → i < length bytes →
    plain_after follows (drop i bytes) ≡ (may_follow (get_or bytes i 0) follows && plain_after (is_ascii_alphanumeric (get_or bytes i 0)) (drop (i + 1) bytes))
plain_after-at follows bytes i below = at_drop_more (plain_after follows) bytes i 0 below ∙ plain_after_more follows (get_or bytes i 0) (drop (i + 1) bytes)

-- a byte that may not come there
pub plain_after-failed : (follows : Bool) (bytes : List ℕ) (i : ℕ) (whole : Bool) → i < length bytes →
    plain_after follows (drop i bytes) ≡ whole → may_follow (get_or bytes i 0) follows ≡ false → false ≡ whole
plain_after-failed follows bytes i whole below is failed =
    sym (ap (λ b. b && plain_after (is_ascii_alphanumeric (get_or bytes i 0)) (drop (i + 1) bytes)) failed) ∙ sym (plain_after-at follows bytes i below) ∙ is

-- a byte that may come there
pub plain_after-passed : (follows : Bool) (bytes : List ℕ) (i : ℕ) (whole : Bool) → i < length bytes →
    plain_after follows (drop i bytes) ≡ whole → may_follow (get_or bytes i 0) follows ≡ true →
    plain_after (is_ascii_alphanumeric (get_or bytes i 0)) (drop (i + 1) bytes) ≡ whole
plain_after-passed follows bytes i whole below is passed =
    sym (ap (λ b. b && plain_after (is_ascii_alphanumeric (get_or bytes i 0)) (drop (i + 1) bytes)) passed) ∙ sym (plain_after-at follows bytes i below) ∙ is

-- after the last byte
pub plain_after-done : (follows : Bool) (bytes : List ℕ) (i : ℕ) (whole : Bool) → length bytes ≤ i →
    plain_after follows (drop i bytes) ≡ whole → follows ≡ whole
plain_after-done follows bytes i whole past is =
    sym (plain_after_end follows) ∙ sym (at_drop_all (plain_after follows) bytes i past) ∙ is
