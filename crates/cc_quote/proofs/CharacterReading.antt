-- A reader of words reads a character as it reads its bytes.
use Rattle.std.proofs.Common.{◌≡◌, ◌≢◌, ◌==◌, ℕ, ◌≤◌, Bool, true, false, cond, List, [], ◌∷◌, ◌++◌, Option, Some, None, unwrap_or, encode_utf8, inl, inr, refl, sym, ◌∙◌, ap, append_assoc, append-nil}
use Rattle.std.proofs.lemmas.Bool.Decides.{Decides-eqb}
use Rattle.cc_base.specs.Bytes.{double_quote}
use Rattle.cc_quote.specs.WordReader.{ReadsBytes, after_double_quote, ended, word_from}
use Rattle.cc_quote.proofs.Characters.{AreHigh, IsCharacter, character}
use Rattle.cc_quote.proofs.Characters.IsCharacter.{low, high}

module _ {State : Type 0} (next : State → ℕ → Option State) (added : State → ℕ → List ℕ → List ℕ → List ℕ) (may_end : State → Bool) (reads : ReadsBytes next added) where
  abbrev from : State → List ℕ → List ℕ → Option (List ℕ × List ℕ)
  from state word text = word_from next added may_end state word text

  -- the reading from a first byte on, given the state after it
  abbrev resumed : State → List ℕ → ℕ → List ℕ → Option State → Option (List ℕ × List ℕ)
  resumed state word byte rest after = elim after [
    | Some then ↦ from then (added state byte word (byte ∷ [])) rest
    | None ↦ ended (may_end state) word (byte ∷ rest)
  ]

  -- bytes from 128 on, after a first such byte
  high_run : (state : State) (first : ℕ) (run bytes rest word : List ℕ) → 128 ≤ first
      → ((byte : ℕ) → 128 ≤ byte → next (reads.after state) byte ≡ Some (reads.after state)) → AreHigh bytes
      → from (reads.after state) (added state first word run) (bytes ++ rest) ≡ from (reads.after state) (added state first word (run ++ bytes)) rest
  high_run state first run [] rest word above stays h = ap (λ r. from (reads.after state) (added state first word r) rest) (sym (append-nil run))
  high_run state first run (byte ∷ bytes) rest word above stays h =
      ap (resumed (reads.after state) (added state first word run) byte (bytes ++ rest)) (stays byte h.0)
      ∙ ap (λ w. from (reads.after state) w (bytes ++ rest)) (reads.grows state first byte word run (byte ∷ []) above h.0)
      ∙ high_run state first (run ++ byte ∷ []) bytes rest word above stays h.1
      ∙ ap (λ r. from (reads.after state) (added state first word r) rest) (append_assoc run (byte ∷ []) bytes)

  -- the reading continues after a character
  pub character_read : (state then : State) (c : ℕ) (rest word : List ℕ) → next state c ≡ Some then
      → from state word (encode_utf8 c ++ rest) ≡ from then (added state c word (encode_utf8 c)) rest
  character_read state then c rest word e = by_bytes c (encode_utf8 c) (character c) e
    where
      by_bytes : (c : ℕ) (bytes : List ℕ) → IsCharacter c bytes → next state c ≡ Some then
          → from state word (bytes ++ rest) ≡ from then (added state c word bytes) rest
      by_bytes c bytes (low byte below) e = ap (resumed state word byte rest) e
      by_bytes c bytes (high number byte run above first h) e = elim (reads.leads state) [
        | inl stops ↦ absurd (let wrong : None ≡ Some then = sym (stops number above) ∙ e in cc)
        | inr goes ↦
            let same : Some (reads.after state) ≡ Some then = sym (goes number above).0 ∙ e in
            ap (resumed state word byte (run ++ rest)) (goes byte first).0
            ∙ high_run state byte (byte ∷ []) run rest word first (λ b high. (goes b high).1) h
            ∙ ap (λ w. from (reads.after state) w rest) (reads.same state byte number word (byte ∷ run) first above)
            ∙ ap (λ s. from (unwrap_or s state) (added state number word (byte ∷ run)) rest) same
      ]

  -- the reading stops before a character
  pub character_stops : (state : State) (c : ℕ) (rest word : List ℕ) → next state c ≡ None
      → from state word (encode_utf8 c ++ rest) ≡ ended (may_end state) word (encode_utf8 c ++ rest)
  character_stops state c rest word e = by_bytes c (encode_utf8 c) (character c) e
    where
      by_bytes : (c : ℕ) (bytes : List ℕ) → IsCharacter c bytes → next state c ≡ None → from state word (bytes ++ rest) ≡ ended (may_end state) word (bytes ++ rest)
      by_bytes c bytes (low byte below) e = ap (resumed state word byte rest) e
      by_bytes c bytes (high number byte run above first h) e = elim (reads.leads state) [
        | inl stops ↦ ap (resumed state word byte (run ++ rest)) (stops byte first)
        | inr goes ↦ absurd (let wrong : Some (reads.after state) ≡ None = sym (goes number above).0 ∙ e in cc)
      ]

-- ---- a text after `"`

pub double_none : (read : List ℕ → Option (List ℕ × List ℕ)) (text : List ℕ) → ((rest : List ℕ) → text ≢ double_quote ∷ rest) → after_double_quote read text ≡ None
double_none read [] h = refl
double_none read (byte ∷ rest) h = by (byte == double_quote) refl
  where
    by : (b : Bool) → byte == double_quote ≡ b → cond b (read rest) None ≡ None
    by true e = absurd (h rest (ap (λ b. b ∷ rest) ((Decides-eqb byte double_quote).0 e)))
    by false e = refl
