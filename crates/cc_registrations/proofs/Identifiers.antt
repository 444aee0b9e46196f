-- An identifier is one for the readers, and its bytes meet their requirements.
use Rattle.std.proofs.Common.{◌≡◌, ◌==◌, ℕ, Bool, true, false, not, cond, List, [], ◌∷◌, ◌++◌, map, Some, None, codes, refl, sym, ◌∙◌, ap}
use Rattle.std.specs.Char.{is_ascii_digit}
use Rattle.std.specs.List.{list_all}
use Rattle.std.proofs.lemmas.Bool.{and_from, ne_eqb}
use Rattle.cc_base.specs.Bytes.{underscore}
use Rattle.cc_base.proofs.Finding.{Lacks}
use Rattle.cc_registrations.specs.Names.{identifier, identifier_byte, identifier_front, if_identifier, is_identifier, is_identifier_byte}

-- ---- bytes that do not occur in an identifier

lacks_underscore : (special : ℕ) → is_identifier_byte special ≡ false → special == underscore ≡ false
unfolding is_identifier_byte
lacks_underscore special h =
    ne_eqb special underscore (λ same. let wrong : true ≡ false = sym (ap is_identifier_byte same) ∙ h in cc)

bytes_lack : (special : ℕ) (text : List ℕ) → is_identifier_byte special ≡ false → Lacks special (map identifier_byte text)
unfolding identifier_byte
bytes_lack special [] h = tt
bytes_lack special (byte ∷ text) h = (by_test (is_identifier_byte byte) refl, bytes_lack special text h)
  where
    by_test : (is : Bool) → is_identifier_byte byte ≡ is → (special == cond is byte underscore) ≡ false
    by_test true e =
        ne_eqb special byte (λ same. let wrong : true ≡ false = sym e ∙ ap is_identifier_byte (sym same) ∙ h in cc)
    by_test false e = lacks_underscore special h

-- a byte that may not occur in an identifier does not occur in one
pub identifier_lacks : (special : ℕ) (text : List ℕ) → is_identifier_byte special ≡ false → Lacks special (identifier text)
unfolding identifier_front
identifier_lacks special [] h = (lacks_underscore special h, tt)
identifier_lacks special (byte ∷ text) h = by_test (is_ascii_digit byte)
  where
    by_test : (digit : Bool) → Lacks special (cond digit (codes "_") [] ++ map identifier_byte (byte ∷ text))
    by_test true = (lacks_underscore special h, bytes_lack special (byte ∷ text) h)
    by_test false = bytes_lack special (byte ∷ text) h

-- ---- an identifier is one

bytes_are : (text : List ℕ) → list_all is_identifier_byte (map identifier_byte text) ≡ true
unfolding identifier_byte is_identifier_byte
bytes_are [] = refl
bytes_are (byte ∷ text) = and_from (is_identifier_byte (identifier_byte byte)) (list_all is_identifier_byte (map identifier_byte text)) (by_test (is_identifier_byte byte) refl) (bytes_are text)
  where
    by_test : (is : Bool) → is_identifier_byte byte ≡ is → is_identifier_byte (identifier_byte byte) ≡ true
    by_test true e = ap (λ b. is_identifier_byte (cond b byte underscore)) e ∙ e
    by_test false e = ap (λ b. is_identifier_byte (cond b byte underscore)) e

no_digit : (byte : ℕ) → is_ascii_digit byte ≡ false → is_ascii_digit (identifier_byte byte) ≡ false
unfolding identifier_byte
no_digit byte h = by_test (is_identifier_byte byte)
  where
    by_test : (is : Bool) → is_ascii_digit (cond is byte underscore) ≡ false
    by_test true = h
    by_test false = refl

identifier_is : (text : List ℕ) → is_identifier (identifier text) ≡ true
unfolding is_identifier identifier_front is_identifier_byte
identifier_is [] = refl
identifier_is (byte ∷ text) = by_test (is_ascii_digit byte) refl
  where
    by_test : (digit : Bool) → is_ascii_digit byte ≡ digit → is_identifier (cond digit (codes "_") [] ++ map identifier_byte (byte ∷ text)) ≡ true
    by_test true e = bytes_are (byte ∷ text)
    by_test false e =
        and_from (not (is_ascii_digit (identifier_byte byte))) (list_all is_identifier_byte (map identifier_byte (byte ∷ text))) (ap not (no_digit byte e)) (bytes_are (byte ∷ text))

-- so a reader takes it
pub identifier_found : (text : List ℕ) → if_identifier (identifier text) ≡ Some (identifier text)
unfolding if_identifier
identifier_found text = ap (λ b. cond b (Some (identifier text)) None) (identifier_is text)
