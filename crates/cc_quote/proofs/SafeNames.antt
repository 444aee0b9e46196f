-- Plain names and plain paths need no quotes.
use Rattle.std.proofs.Common.{◌≡◌, ◌≢◌, ℕ, Bool, true, IsTrue, List, [], ◌∷◌, refl, arith}
use Rattle.std.proofs.lemmas.Bool.Decides.{nat_tests}
use Rattle.std.specs.List.{AllByRecursion, list_all}
use Rattle.cc_base.specs.PlainName.{foreign, name_byte, is_plain_name}
use Rattle.cc_base.proofs.Booleans.{each_passes}
use Rattle.cc_base.proofs.Members.{AllByRecursion-weaker}
use Rattle.cc_base.proofs.NameBytes.{AreNameBytes, letter_or_joiner, plain_bytes, plain_some}
use Rattle.cc_quote.specs.FishQuote.{is_fish_safe, fish_quoted}
use Rattle.cc_quote.specs.PlainPath.{is_path_byte, is_plain_path}
use Rattle.cc_quote.specs.PosixQuote.{is_posix_safe, is_posix_safe_word, posix_quoted}

pub fish_safe : (byte : ℕ) → name_byte byte ≢ foreign → is_fish_safe byte ≡ true
unfolding is_fish_safe
fish_safe byte h = let k = letter_or_joiner byte h in grind (arith, nat_tests)

posix_safe : (byte : ℕ) → name_byte byte ≢ foreign → is_posix_safe byte ≡ true
unfolding is_posix_safe
posix_safe byte h = let k = letter_or_joiner byte h in grind (arith, nat_tests)

pub fish_safe_bytes : (text : List ℕ) → AreNameBytes text → AllByRecursion (λ byte. is_fish_safe byte ≡ true) text
fish_safe_bytes text h = AllByRecursion-weaker (λ byte. name_byte byte ≢ foreign) (λ byte. is_fish_safe byte ≡ true) fish_safe text h

all_pass : (passes : ℕ → Bool) (text : List ℕ) → AllByRecursion (λ byte. passes byte ≡ true) text → list_all passes text ≡ true
all_pass passes [] h = refl
all_pass passes (byte ∷ text) h = rw h.0 (all_pass passes text h.1)

-- a plain name needs no quotes
pub fish_plain : (name : List ℕ) → IsTrue (is_plain_name name) → fish_quoted name ≡ name
unfolding fish_quoted
fish_plain [] h = absurd (plain_some [] h refl)
fish_plain (byte ∷ name) h = rw (all_pass is_fish_safe (byte ∷ name) (fish_safe_bytes (byte ∷ name) (plain_bytes (byte ∷ name) h))) refl

pub plain_safe : (name : List ℕ) → IsTrue (is_plain_name name) → is_posix_safe_word name ≡ true
unfolding is_posix_safe_word
plain_safe [] h = absurd (plain_some [] h refl)
plain_safe (byte ∷ name) h = all_pass is_posix_safe (byte ∷ name) (AllByRecursion-weaker (λ b. name_byte b ≢ foreign) (λ b. is_posix_safe b ≡ true) posix_safe (byte ∷ name) (plain_bytes (byte ∷ name) h))

-- a byte of a plain path needs no quotes
path_byte_safe : (byte : ℕ) → is_path_byte byte ≡ true → is_posix_safe byte ≡ true
unfolding is_path_byte is_posix_safe
path_byte_safe byte h = grind (arith, nat_tests)

pub path_safe : (path : List ℕ) → IsTrue (is_plain_path path) → is_posix_safe_word path ≡ true
unfolding is_plain_path is_posix_safe_word
path_safe [] h = cc
path_safe (byte ∷ path) h =
    all_pass is_posix_safe (byte ∷ path)
    (AllByRecursion-weaker (λ b. IsTrue (is_path_byte b)) (λ b. is_posix_safe b ≡ true) path_byte_safe (byte ∷ path)
    (each_passes is_path_byte (byte ∷ path) h))

pub safe_as_it_is : (text : List ℕ) → is_posix_safe_word text ≡ true → posix_quoted text ≡ text
unfolding posix_quoted
safe_as_it_is text h = rw h refl

pub posix_plain : (name : List ℕ) → IsTrue (is_plain_name name) → posix_quoted name ≡ name
posix_plain name h = safe_as_it_is name (plain_safe name h)
