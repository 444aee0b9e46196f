-- An escape by bytes cuts a text at its first escaped byte. Two such escapes are one.
use Rattle.std.proofs.Common.{◌≡◌, ◌∙◌, ℕ, suc, ◌<◌, ◌+◌, Bool, true, false, List, [], ◌∷◌, ◌++◌, length, get_or, take, drop, flat_map, refl, sym, ap, arith, ⊎_elim, add-one, append_assoc, drop-cons, Some}
use Rattle.std.proofs.lemmas.List.{take-append-drop, get_or-take, length-take-le}
use Rattle.std.proofs.lemmas.List.Concat.{flat_map-append}
use Rattle.std.proofs.lemmas.Bool.{cases_Bool}
use Rattle.memchr.specs.Find.{Nowhere, Passes, NoneBefore}
use Rattle.cc_quote.specs.Escapes.{escaped_byte, escaped_by, replacement_by}

-- if two escapes write the same for each byte, they write the same for a text
pub same_bytes : (one other : ℕ → List ℕ) → ((byte : ℕ) → one byte ≡ other byte) → (text : List ℕ) → flat_map one text ≡ flat_map other text
same_bytes one other same [] = refl
same_bytes one other same (byte ∷ text) = ap (λ bytes. bytes ++ flat_map one text) (same byte) ∙ ap (λ bytes. other byte ++ bytes) (same_bytes one other same text)

-- an escape of an escaped text
pub composed : (first second : ℕ → List ℕ) (text : List ℕ) → flat_map (λ byte. flat_map second (first byte)) text ≡ flat_map second (flat_map first text)
composed first second [] = refl
composed first second (byte ∷ text) =
    ap (λ bytes. flat_map second (first byte) ++ bytes) (composed first second text)
    ∙ sym (flat_map-append second (first byte) (flat_map first text))

module _ (escapes : ℕ → Bool) (replacement : ℕ → List ℕ) where
  -- a byte that is not escaped
  kept_byte : (byte : ℕ) → escapes byte ≡ false → escaped_byte escapes replacement byte ≡ byte ∷ []
  kept_byte byte is = rw is

  -- a byte that is escaped
  pub replaced_byte : (byte : ℕ) → escapes byte ≡ true → escaped_byte escapes replacement byte ≡ replacement byte
  replaced_byte byte is = rw is

  -- the replacement of a byte that is escaped
  pub replacement_is : (byte : ℕ) (text : List ℕ) → escapes byte ≡ true → Some text ≡ replacement_by escapes replacement byte → text ≡ replacement byte
  replacement_is byte text is e = let same : Some text ≡ Some (replacement byte) = rw is at e in cc

  -- a run of bytes that are not escaped
  kept_run : (text : List ℕ) → ((k : ℕ) → k < length text → ¬ (escapes (get_or text k 0) ≡ true)) → escaped_by escapes replacement text ≡ text
  kept_run [] h = refl
  kept_run (b ∷ text) h =
      let one : escaped_byte escapes replacement b ≡ b ∷ [] =
      ⊎_elim {C = escaped_byte escapes replacement b ≡ b ∷ []} (λ is. absurd (h 0 (omega arith) is)) (λ no. kept_byte b no) (cases_Bool (escapes b)) in
      ap (λ run. run ++ escaped_by escapes replacement text) one ∙ ap (λ run. b ∷ run) (kept_run text (λ k l. h (suc k) (omega arith)))

  -- a text in which no byte is escaped
  pub kept_whole : (text searched : List ℕ) → searched ≡ text → Nowhere (Passes escapes searched) 0 (length searched) → escaped_by escapes replacement text ≡ text
  kept_whole text searched e none = rw e at (kept_run searched (λ k l. none k (omega arith) l))

  -- a text with `k` as the index of its first escaped byte
  pub first_escaped : (text searched : List ℕ) (k : ℕ) → searched ≡ text → NoneBefore (Passes escapes searched) 0 (length searched) k × Passes escapes searched k
      → escaped_by escapes replacement text ≡ take k text ++ replacement (get_or searched k 0) ++ escaped_by escapes replacement (drop (k + 1) text)
  first_escaped text searched k e found =
      let h : NoneBefore (Passes escapes text) 0 (length text) k = rw e at found.0 in
      let rest = escaped_by escapes replacement (drop (k + 1) text) in
      let within : k < length text = h.high in
      let cut : text ≡ take k text ++ get_or text k 0 ∷ drop (k + 1) text =
      sym (take-append-drop k text) ∙ ap (λ (bs : List ℕ). take k text ++ bs) (rw add-one (drop-cons text k 0 within)) in
      let shorter : length (take k text) ≡ k = length-take-le k text (omega arith) in
      ap (escaped_by escapes replacement) cut
      ∙ flat_map-append (escaped_byte escapes replacement) (take k text) (get_or text k 0 ∷ drop (k + 1) text)
      ∙ ap (λ (run : List ℕ). run ++ (escaped_byte escapes replacement (get_or text k 0) ++ rest))
      (kept_run (take k text) (λ i l. rw (get_or-take k text i 0 (omega arith)) (h.before i (omega arith) (omega arith))))
      ∙ sym (append_assoc (take k text) (escaped_byte escapes replacement (get_or text k 0)) rest)
      ∙ ap (λ t. take k text ++ escaped_byte escapes replacement (get_or t k 0) ++ rest) (sym e)
      ∙ ap (λ t. take k text ++ t ++ rest) (replaced_byte (get_or searched k 0) found.1)
