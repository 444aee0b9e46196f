-- Facts about the bytes of plain names, for readers of scripts.
use Rattle.std.proofs.Common.{◌≡◌, ◌≢◌, ◌==◌, ◌||◌, ℕ, Bool, true, false, cond, IsTrue, List, [], ◌∷◌, map, refl, sym, ◌∙◌, ap}
use Rattle.std.proofs.lemmas.Bool.{ne_eqb}
use Rattle.std.specs.Char.{is_ascii_alphanumeric}
use Rattle.std.specs.List.{AllByRecursion}
use Rattle.cc_base.specs.Bytes.{is_blank, dash, line_feed, space, underscore}
use Rattle.cc_base.specs.PlainName.{NameByte, letter, joiner, foreign, name_byte, is_joined, is_plain_name}
use Rattle.cc_base.proofs.Finding.{Lacks, NonePasses}
use Rattle.cc_base.proofs.Members.{AllByRecursion-weaker}

-- each byte may occur in a name
abbrev pub AreNameBytes : List ℕ → Type 0
AreNameBytes text = AllByRecursion (λ byte. name_byte byte ≢ foreign) text

none_foreign : (bytes : List NameByte) → IsTrue (is_joined bytes) → AllByRecursion (λ byte. byte ≢ foreign) bytes
unfolding is_joined
none_foreign (letter ∷ []) h = (λ e. cc, tt)
none_foreign (letter ∷ letter ∷ bytes) h = (λ e. cc, none_foreign (letter ∷ bytes) h)
none_foreign (letter ∷ joiner ∷ bytes) h = (λ e. cc, (λ e. cc, none_foreign bytes h))
none_foreign bytes h = cc

of_bytes : (name : List ℕ) → AllByRecursion (λ byte. byte ≢ foreign) (map name_byte name) → AreNameBytes name
of_bytes [] h = tt
of_bytes (byte ∷ name) h = (h.0, of_bytes name h.1)

-- each byte of a plain name may occur in a name
pub plain_bytes : (name : List ℕ) → IsTrue (is_plain_name name) → AreNameBytes name
unfolding is_plain_name
plain_bytes name h = of_bytes name (none_foreign (map name_byte name) h)

pub name_lacks : (special : ℕ) (text : List ℕ) → name_byte special ≡ foreign → AreNameBytes text → Lacks special text
name_lacks special text e h =
    AllByRecursion-weaker (λ byte. name_byte byte ≢ foreign) (λ byte. (special == byte) ≡ false)
    (λ byte n. ne_eqb special byte (λ same. n (ap name_byte (sym same) ∙ e))) text h

pub name_is_not : (byte special : ℕ) → name_byte byte ≢ foreign → name_byte special ≡ foreign → (byte == special) ≡ false
name_is_not byte special n e = ne_eqb byte special (λ same. n (ap name_byte same ∙ e))

pub name_byte_not_blank : (byte : ℕ) → name_byte byte ≢ foreign → is_blank byte ≡ false
unfolding name_byte
name_byte_not_blank byte n = rw (name_is_not byte space n refl, name_is_not byte 9 n refl, name_is_not byte 10 n refl) refl

pub name_no_blanks : (text : List ℕ) → AreNameBytes text → NonePasses is_blank text
name_no_blanks text h = AllByRecursion-weaker (λ byte. name_byte byte ≢ foreign) (λ byte. is_blank byte ≡ false) name_byte_not_blank text h

pub name_no_line_feeds : (text : List ℕ) → AreNameBytes text → NonePasses (λ byte. byte == line_feed) text
unfolding name_byte
name_no_line_feeds text h = AllByRecursion-weaker (λ byte. name_byte byte ≢ foreign) (λ byte. (byte == line_feed) ≡ false) (λ byte n. name_is_not byte 10 n refl) text h

pub plain_some : (name : List ℕ) → IsTrue (is_plain_name name) → name ≢ []
unfolding is_plain_name is_joined
plain_some [] h = cc
plain_some (byte ∷ name) h = λ e. cc

-- a byte that may occur in a name is a letter, a digit, a `-` or a `_`
pub letter_or_joiner : (byte : ℕ) → name_byte byte ≢ foreign → (is_ascii_alphanumeric byte || (byte == dash || byte == underscore)) ≡ true
unfolding name_byte
letter_or_joiner byte h = by_tests (is_ascii_alphanumeric byte) (byte == dash || byte == underscore) h
  where
    by_tests : (a j : Bool) → cond a letter (cond j joiner foreign) ≢ foreign → (a || j) ≡ true
    by_tests true j k = refl
    by_tests false true k = refl
    by_tests false false k = absurd (k refl)

-- a plain name begins with a letter or a digit
first_letter : (kind : NameByte) (kinds : List NameByte) → IsTrue (is_joined (kind ∷ kinds)) → kind ≡ letter
unfolding is_joined
first_letter letter kinds h = refl
first_letter kind kinds h = cc

-- so a plain name does not begin with a `-` or a `_`
pub no_joiner_first : (special byte : ℕ) (name : List ℕ) → name_byte special ≡ joiner → IsTrue (is_plain_name (byte ∷ name)) → (special == byte) ≡ false
unfolding is_plain_name
no_joiner_first special byte name h plain =
    let is : name_byte byte ≡ letter = first_letter (name_byte byte) (map name_byte name) plain in
    ne_eqb special byte (λ same. let not : joiner ≡ letter = sym h ∙ ap name_byte same ∙ is in cc)
