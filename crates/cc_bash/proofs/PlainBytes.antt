-- The bytes of plain names, of labels and of quiet values meet what the reader requires.
use Rattle.std.proofs.Common.{◌≡◌, ◌≢◌, ℕ, Bool, true, false, cond, ◌==◌, ◌||◌, IsTrue, List, [], ◌∷◌, ◌++◌, codes, refl, arith}
use Rattle.std.specs.Char.{is_ascii_alphanumeric}
use Rattle.std.specs.List.{AllByRecursion, list_all}
use Rattle.std.proofs.lemmas.Bool.Decides.{nat_tests}
use Rattle.cc_base.specs.Bytes.{dash, underscore, comma, close_parenthesis}
use Rattle.cc_base.proofs.Booleans.{each_passes}
use Rattle.cc_base.proofs.Members.{AllByRecursion-weaker, AllByRecursion-append}
use Rattle.cc_base.specs.PlainName.{foreign, name_byte, is_joined, is_plain_name}
use Rattle.cc_command.specs.Tree.{Tree}
use Rattle.cc_command.specs.Names.{full_name}
use Rattle.cc_command.specs.Plain.{is_plain_tree}
use Rattle.cc_base.proofs.NameBytes.{plain_bytes, letter_or_joiner}
use Rattle.cc_command.proofs.PlainParts.{IsPlainName, plain_full_name}
use Rattle.cc_quote.specs.PosixSigns.{sign}
use Rattle.cc_quote.specs.PosixSigns.Sign.{other}
use Rattle.cc_quote.proofs.PosixCutting.{IsOther, IsWord}
use Rattle.cc_quote.specs.Escapes.{replace_byte}
use Rattle.cc_bash.specs.Labels.{root_label, child_label}
use Rattle.cc_command.specs.Quiet.{is_quiet_byte, is_quiet_value}
use Rattle.cc_bash.proofs.WordsRead.{Lacks}

-- what the reader requires of a byte
abbrev pub IsPlainByte : ℕ → Type 0
IsPlainByte byte = (sign byte ≡ other byte)
    × (((byte == close_parenthesis) ≡ false) × ((byte == comma) ≡ false))

-- whether a byte is a letter, a digit, a `-` or a `_`
abbrev pub is_word_byte : ℕ → Bool
is_word_byte byte = is_ascii_alphanumeric byte || (byte == dash || byte == underscore)

pub word_byte_plain : (byte : ℕ) → IsTrue (is_word_byte byte) → IsPlainByte byte
unfolding sign
word_byte_plain byte h = (
  grind (arith, nat_tests),
  (grind (arith, nat_tests), grind (arith, nat_tests)),
)

-- each byte meets the requirement
abbrev pub ArePlainBytes : List ℕ → Type 0
ArePlainBytes text = AllByRecursion IsPlainByte text

pub words_plain : (text : List ℕ) → IsTrue (list_all is_word_byte text) → ArePlainBytes text
words_plain text h = AllByRecursion-weaker (λ b. IsTrue (is_word_byte b)) IsPlainByte
    word_byte_plain text (each_passes is_word_byte text h)

-- such a text, with at least one byte
abbrev pub IsPlainText : List ℕ → Type 0
IsPlainText [] = ⊥
IsPlainText (byte ∷ text) = ArePlainBytes (byte ∷ text)

-- a plain name is such a text
pub plain_text : (name : List ℕ) → IsPlainName name → IsPlainText name
unfolding is_plain_name is_joined
plain_text [] h = cc
plain_text (byte ∷ name) h = AllByRecursion-weaker (λ b. name_byte b ≢ foreign) IsPlainByte
    (λ b k. word_byte_plain b (letter_or_joiner b k)) (byte ∷ name) (plain_bytes (byte ∷ name) h)

pub bytes_of : (text : List ℕ) → IsPlainText text → ArePlainBytes text
bytes_of [] h = absurd h
bytes_of (byte ∷ text) h = h

text_append : (text more : List ℕ) → IsPlainText text → ArePlainBytes more →
    IsPlainText (text ++ more)
text_append [] more h k = absurd h
text_append (byte ∷ text) more h k = AllByRecursion-append IsPlainByte (byte ∷ text) more h k

pub word_of : (text : List ℕ) → IsPlainText text → IsWord text
word_of [] h = absurd h
word_of (byte ∷ text) h = AllByRecursion-weaker IsPlainByte (λ b. sign b ≡ other b) (λ b k. k.0)
    (byte ∷ text) h

pub other_of : (text : List ℕ) → ArePlainBytes text → IsOther text
other_of text h = AllByRecursion-weaker IsPlainByte (λ b. sign b ≡ other b) (λ b k. k.0) text h

pub no_paren_of : (text : List ℕ) → ArePlainBytes text → Lacks close_parenthesis text
no_paren_of text h = AllByRecursion-weaker IsPlainByte (λ b. (b == close_parenthesis) ≡ false)
    (λ b k. k.1.0) text h

pub no_comma_of : (text : List ℕ) → ArePlainBytes text → Lacks comma text
no_comma_of text h = AllByRecursion-weaker IsPlainByte (λ b. (b == comma) ≡ false)
    (λ b k. k.1.1) text h

-- ---- labels

replace_byte_plain : (byte : ℕ) (by text : List ℕ) → ArePlainBytes by → ArePlainBytes text →
    ArePlainBytes (replace_byte byte by text)
replace_byte_plain byte by [] h k = tt
replace_byte_plain byte by (b ∷ text) h k =
    AllByRecursion-append IsPlainByte (cond (b == byte) by (b ∷ [])) (replace_byte byte by text)
    (one (b == byte)) (replace_byte_plain byte by text h k.1)
  where
    one : (is : Bool) → ArePlainBytes (cond is by (b ∷ []))
    one true = h
    one false = (k.0, tt)

-- a replaced name has a first byte
replace_byte_text : (byte : ℕ) (by text : List ℕ) → IsPlainText by → IsPlainText text →
    IsPlainText (replace_byte byte by text)
replace_byte_text byte by [] h k = absurd k
replace_byte_text byte by (b ∷ text) h k =
    one (b == byte) (replace_byte_plain byte by text (bytes_of by h) k.1)
  where
    one : (is : Bool) → ArePlainBytes (replace_byte byte by text) →
        IsPlainText (cond is by (b ∷ []) ++ replace_byte byte by text)
    one true rest = text_append by (replace_byte byte by text) h rest
    one false rest = (k.0, rest)

-- the text that labels have in addition to names
subcmd_plain : ArePlainBytes (codes "__subcmd__")
subcmd_plain = words_plain (codes "__subcmd__") refl

pub root_plain : (tree : Tree) → IsTrue (is_plain_tree tree) → IsPlainText (root_label tree)
root_plain tree h = replace_byte_text dash (codes "__") (full_name tree.node)
    (words_plain (codes "__") refl)
    (plain_text (full_name tree.node) (plain_full_name tree h))

pub child_plain : (parent name : List ℕ) → IsPlainText parent → IsPlainText name →
    IsPlainText (child_label parent name)
child_plain parent name h k =
    text_append (parent ++ codes "__subcmd__") (replace_byte dash (codes "__subcmd__") name)
    (text_append parent (codes "__subcmd__") h subcmd_plain)
    (replace_byte_plain dash (codes "__subcmd__") name subcmd_plain
    (bytes_of name k))

-- ---- values

quiet_byte : (byte : ℕ) → IsTrue (is_quiet_byte byte) → sign byte ≡ other byte
unfolding sign
quiet_byte byte h = grind (arith, nat_tests)

-- a quiet value is a word
pub quiet_word : (value : List ℕ) → IsTrue (is_quiet_value value) → IsWord value
quiet_word [] h = cc
quiet_word (byte ∷ value) h =
    AllByRecursion-weaker (λ b. IsTrue (is_quiet_byte b)) (λ b. sign b ≡ other b) quiet_byte
    (byte ∷ value) (each_passes is_quiet_byte (byte ∷ value) h)
