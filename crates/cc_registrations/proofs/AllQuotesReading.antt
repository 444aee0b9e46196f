-- A text with a `'` before each quote of PowerShell, between two quotes, is read as the text.
use Rattle.std.proofs.Common.{◌≡◌, ◌==◌, ◌&&◌, ◌||◌, cond, ℕ, Bool, true, false, not, List, [], ◌∷◌, ◌++◌, flat_map, codes, refl, sym, ◌∙◌, ap, ap₂, subst, append_assoc, append-nil, inl, inr}
use Rattle.std.proofs.lemmas.Bool.{and_parts, cases_Bool, or_parts}
use Rattle.std.proofs.lemmas.Bool.Decides.{Decides-eqb}
use Rattle.cc_base.specs.Bytes.{right_quote_first, right_quote_second, single_quote}
use Rattle.cc_quote.specs.Signs.{Sign, bytes, other, quote, sign}
use Rattle.cc_quote.proofs.ElvishWords.{bytes-sign}
use Rattle.cc_quote.proofs.WithinQuotes.{ReadsQuoted, kept_byte}
use Rattle.cc_registrations.specs.AllQuotes.{all_escaped, all_signs, before_byte, begins_any_quote, begins_curved, begins_quote_second, is_quote_third, sign_with}

-- ---- the quotes

-- the last byte of a quote of three bytes
pub data Third : ℕ → Type 0 where
  left : Third 152
  right : Third 153
  low : Third 154
  reversed : Third 155

third : (byte : ℕ) → is_quote_third byte ≡ true → Third byte
third byte e = elim (cases_Bool (byte == 152)) [
  | inl is ↦ at byte 152 left is
  | inr a ↦ elim (cases_Bool (byte == 153)) [
    | inl is ↦ at byte 153 right is
    | inr b ↦ elim (cases_Bool (byte == 154)) [
      | inl is ↦ at byte 154 low is
      | inr c ↦ elim (cases_Bool (byte == 155)) [
        | inl is ↦ at byte 155 reversed is
        | inr d ↦ absurd (none a b c d e)
      ]
    ]
  ]
]
  where
    at : (byte value : ℕ) → Third value → byte == value ≡ true → Third byte
    at byte value is e = subst Third (sym ((Decides-eqb byte value).0 e)) is

    none : {p q r s : Bool} → p ≡ false → q ≡ false → r ≡ false → s ≡ false → p || q || r || s ≡ true → ⊥
    none a b c d e = cc

-- a byte and the text after it: a quote of three bytes begins there, or does not
pub data Beginning : ℕ → List ℕ → Type 0 where
  curved : {last : ℕ} → Third last → (more : List ℕ) → Beginning right_quote_first (right_quote_second ∷ last ∷ more)
  plain : {byte : ℕ} {rest : List ℕ} → begins_curved byte rest ≡ false → Beginning byte rest

-- one of the two holds
beginning : (byte : ℕ) (rest : List ℕ) → Beginning byte rest
beginning byte [] = plain (by_first (byte == right_quote_first))
  where
    by_first : (b : Bool) → b && false ≡ false
    by_first true = refl
    by_first false = refl
beginning byte (second ∷ []) = plain (by_first (byte == right_quote_first))
  where
    by_first : (b : Bool) → b && false ≡ false
    by_first true = refl
    by_first false = refl
beginning byte (second ∷ last ∷ more) = elim (cases_Bool (begins_curved byte (second ∷ last ∷ more))) [
  | inr none ↦ plain none
  | inl is ↦
      let first = and_parts (byte == right_quote_first) (second == right_quote_second && is_quote_third last) is in
      let next = and_parts (second == right_quote_second) (is_quote_third last) first.1 in
      subst (λ b. Beginning b (second ∷ last ∷ more)) (sym ((Decides-eqb byte right_quote_first).0 first.0))
      (subst (λ s. Beginning right_quote_first (s ∷ last ∷ more)) (sym ((Decides-eqb second right_quote_second).0 next.0))
      (curved (third last next.1) more))
]

-- ---- the signs

-- a byte at which no quote of three bytes begins has a sign of its own
signs_plain : (byte : ℕ) (rest : List ℕ) → begins_curved byte rest ≡ false → all_signs (byte ∷ rest) ≡ sign byte ∷ all_signs rest
unfolding all_signs sign_with
signs_plain byte rest e = ap (λ b. sign_with b byte rest (all_signs rest)) e

-- a `'` is a quote
signs_single : (rest : List ℕ) → all_signs (single_quote ∷ rest) ≡ quote (single_quote ∷ []) ∷ all_signs rest
unfolding all_signs sign_with sign
signs_single rest = refl

-- such a quote is one sign
signs_curved : {last : ℕ} → Third last → (more : List ℕ)
    → all_signs (right_quote_first ∷ right_quote_second ∷ last ∷ more) ≡ quote (right_quote_first ∷ right_quote_second ∷ last ∷ []) ∷ all_signs more
unfolding all_signs sign_with sign
signs_curved left more = refl
signs_curved right more = refl
signs_curved low more = refl
signs_curved reversed more = refl

-- its last two bytes, alone
signs_tail : {last : ℕ} → Third last → (more : List ℕ)
    → all_signs (right_quote_second ∷ last ∷ more) ≡ other (right_quote_second ∷ []) ∷ other (last ∷ []) ∷ all_signs more
unfolding all_signs sign_with sign
signs_tail left more = refl
signs_tail right more = refl
signs_tail low more = refl
signs_tail reversed more = refl

-- the signs hold all bytes
pub bytes_signs : (text : List ℕ) → flat_map bytes (all_signs text) ≡ text
unfolding all_signs
bytes_signs [] = refl
bytes_signs (byte ∷ rest) = by_beginning byte rest (beginning byte rest) (bytes_signs rest)
  where
    by_beginning : (byte : ℕ) (rest : List ℕ) → Beginning byte rest → flat_map bytes (all_signs rest) ≡ rest → flat_map bytes (all_signs (byte ∷ rest)) ≡ byte ∷ rest
    by_beginning byte rest (plain e) below = ap (flat_map bytes) (signs_plain byte rest e) ∙ ap₂ ◌++◌ (bytes-sign byte) below
    by_beginning byte rest (curved last more) below =
        ap (flat_map bytes) (signs_curved last more) ∙ ap (λ bs. right_quote_first ∷ bs) (sym (ap (flat_map bytes) (signs_tail last more)) ∙ below)

-- ---- an escaped text begins with the last two bytes of a quote if and only if the text does

-- the text written for a byte at which no quote begins
kept : (byte : ℕ) (rest : List ℕ) → begins_any_quote byte rest ≡ false → all_escaped (byte ∷ rest) ≡ byte ∷ all_escaped rest
unfolding all_escaped before_byte
kept byte rest e = ap (λ b. (cond b (codes "'") [] ++ byte ∷ []) ++ all_escaped rest) e

-- the text written for one at which a quote begins
marked : (byte : ℕ) (rest : List ℕ) → begins_any_quote byte rest ≡ true → all_escaped (byte ∷ rest) ≡ single_quote ∷ byte ∷ all_escaped rest
unfolding all_escaped before_byte
marked byte rest e = ap (λ b. (cond b (codes "'") [] ++ byte ∷ []) ++ all_escaped rest) e

-- a byte at which a quote begins is neither the second nor the last byte of one
first_byte : (byte : ℕ) (rest : List ℕ) → begins_any_quote byte rest ≡ true → (byte == right_quote_second ≡ false) × (is_quote_third byte ≡ false)
first_byte byte rest e = elim (cases_Bool (byte == single_quote)) [
  | inl is ↦ of_value byte single_quote ((Decides-eqb byte single_quote).0 is) refl refl
  | inr not_single ↦
      let begins : begins_curved byte rest ≡ true = sym (ap (λ b. b || begins_curved byte rest) not_single) ∙ e in
      of_value byte right_quote_first ((Decides-eqb byte right_quote_first).0 (and_parts (byte == right_quote_first) (begins_quote_second rest) begins).0) refl refl
]
  where
    of_value : (byte value : ℕ) → byte ≡ value → value == right_quote_second ≡ false → is_quote_third value ≡ false → (byte == right_quote_second ≡ false) × (is_quote_third byte ≡ false)
    of_value byte value e s t = (ap (λ b. b == right_quote_second) e ∙ s, ap is_quote_third e ∙ t)

-- whether a text begins with the last byte
abbrev begins_third : List ℕ → Bool
begins_third [] = false
begins_third (byte ∷ _) = is_quote_third byte

-- by its first byte and the rest
seconds : (byte : ℕ) (rest : List ℕ) → begins_quote_second (byte ∷ rest) ≡ byte == right_quote_second && begins_third rest
seconds byte [] = by_test (byte == right_quote_second)
  where
    by_test : (b : Bool) → false ≡ b && false
    by_test true = refl
    by_test false = refl
seconds byte (last ∷ rest) = refl

escaped_third : (text rest : List ℕ) → begins_third (all_escaped text ++ single_quote ∷ rest) ≡ begins_third text
unfolding all_escaped
escaped_third [] rest = refl
escaped_third (byte ∷ text) rest = elim (cases_Bool (begins_any_quote byte text)) [
  | inl is ↦ ap (λ t. begins_third (t ++ single_quote ∷ rest)) (marked byte text is) ∙ sym (first_byte byte text is).1
  | inr none ↦ ap (λ t. begins_third (t ++ single_quote ∷ rest)) (kept byte text none)
]

escaped_second : (text rest : List ℕ) → begins_quote_second (all_escaped text ++ single_quote ∷ rest) ≡ begins_quote_second text
unfolding all_escaped
escaped_second [] [] = refl
escaped_second [] (byte ∷ rest) = refl
escaped_second (byte ∷ text) rest = elim (cases_Bool (begins_any_quote byte text)) [
  | inl is ↦
      ap (λ t. begins_quote_second (t ++ single_quote ∷ rest)) (marked byte text is)
      ∙ sym (seconds byte text ∙ ap (λ b. b && begins_third text) (first_byte byte text is).0)
  | inr none ↦
      ap (λ t. begins_quote_second (t ++ single_quote ∷ rest)) (kept byte text none)
      ∙ seconds byte (all_escaped text ++ single_quote ∷ rest)
      ∙ ap (λ t. byte == right_quote_second && t) (escaped_third text rest)
      ∙ sym (seconds byte text)
]

-- ---- within quotes

module _ {A : Type 0} (reading : List ℕ → List Sign → A) (reads : ReadsQuoted reading) where
  -- a `'` after a `'` is kept
  single_reads : (rest text : List ℕ) → reading text (all_signs (single_quote ∷ single_quote ∷ rest)) ≡ reading (text ++ single_quote ∷ []) (all_signs rest)
  unfolding all_signs sign_with sign
  single_reads rest text = reads.of_quotes text (single_quote ∷ []) (single_quote ∷ []) (all_signs rest)

  -- a quote of three bytes after a `'` is kept
  curved_reads : {last : ℕ} → Third last → (more text : List ℕ)
      → reading text (all_signs (single_quote ∷ right_quote_first ∷ right_quote_second ∷ last ∷ more))
      ≡ reading (text ++ right_quote_first ∷ []) (all_signs (right_quote_second ∷ last ∷ more))
  curved_reads {last} is more text =
      ap (reading text) (signs_single (right_quote_first ∷ right_quote_second ∷ last ∷ more) ∙ ap (λ s. quote (single_quote ∷ []) ∷ s) (signs_curved is more))
      ∙ reads.of_quotes text (single_quote ∷ []) (right_quote_first ∷ right_quote_second ∷ last ∷ []) (all_signs more)
      ∙ ap (λ t. reading t (all_signs more)) (sym (append_assoc (text ++ right_quote_first ∷ []) (right_quote_second ∷ []) (last ∷ []) ∙ append_assoc text (right_quote_first ∷ []) (right_quote_second ∷ last ∷ [])))
      ∙ sym (reads.of_other ((text ++ right_quote_first ∷ []) ++ right_quote_second ∷ []) (last ∷ []) (all_signs more))
      ∙ sym (reads.of_other (text ++ right_quote_first ∷ []) (right_quote_second ∷ []) (other (last ∷ []) ∷ all_signs more))
      ∙ sym (ap (reading (text ++ right_quote_first ∷ [])) (signs_tail is more))

  -- the text from the byte on
  abbrev from : ℕ → List ℕ → List ℕ → List ℕ
  from byte help rest = all_escaped (byte ∷ help) ++ single_quote ∷ rest

  -- so the escape of a byte is read as that byte
  escaped_byte : (byte : ℕ) (help rest text : List ℕ)
      → reading text (all_signs (from byte help rest)) ≡ reading (text ++ byte ∷ []) (all_signs (all_escaped help ++ single_quote ∷ rest))
  unfolding all_escaped before_byte
  escaped_byte byte help rest text = by_beginning byte help (beginning byte help)
    where
      Read : ℕ → List ℕ → Type 0
      Read byte help = reading text (all_signs (from byte help rest)) ≡ reading (text ++ byte ∷ []) (all_signs (all_escaped help ++ single_quote ∷ rest))

      as_curved : {last : ℕ} → Third last → (more : List ℕ) → Read right_quote_first (right_quote_second ∷ last ∷ more)
      as_curved left more = curved_reads left (all_escaped more ++ single_quote ∷ rest) text
      as_curved right more = curved_reads right (all_escaped more ++ single_quote ∷ rest) text
      as_curved low more = curved_reads low (all_escaped more ++ single_quote ∷ rest) text
      as_curved reversed more = curved_reads reversed (all_escaped more ++ single_quote ∷ rest) text

      by_beginning : (byte : ℕ) (help : List ℕ) → Beginning byte help → Read byte help
      by_beginning byte help (plain g) = elim (cases_Bool (byte == single_quote)) [
        | inl is ↦ subst (λ b. Read b help) (sym ((Decides-eqb byte single_quote).0 is)) (as_single help)
        | inr no_quote ↦
            let none : begins_any_quote byte help ≡ false = ap (λ b. b || begins_curved byte help) no_quote ∙ g in
            ap (λ t. reading text (all_signs (t ++ single_quote ∷ rest))) (kept byte help none)
            ∙ ap (reading text) (signs_plain byte (all_escaped help ++ single_quote ∷ rest) (ap (λ t. byte == right_quote_first && t) (escaped_second help rest) ∙ g))
            ∙ kept_byte reading reads byte (all_signs (all_escaped help ++ single_quote ∷ rest)) text (ap not no_quote)
      ]
        where
          as_single : (help : List ℕ) → Read single_quote help
          as_single help =
              ap (λ t. reading text (all_signs (t ++ single_quote ∷ rest))) (marked single_quote help refl)
              ∙ single_reads (all_escaped help ++ single_quote ∷ rest) text
      by_beginning byte help (curved is more) = as_curved is more

  -- an escaped text, up to a `'`
  pub all_escaped_reads : (help rest text : List ℕ)
      → reading text (all_signs (all_escaped help ++ single_quote ∷ rest)) ≡ reading (text ++ help) (all_signs (single_quote ∷ rest))
  unfolding all_escaped
  all_escaped_reads [] rest text = ap (λ t. reading t (all_signs (single_quote ∷ rest))) (sym (append-nil text))
  all_escaped_reads (byte ∷ help) rest text =
      escaped_byte byte help rest text
      ∙ all_escaped_reads help rest (text ++ byte ∷ [])
      ∙ ap (λ t. reading t (all_signs (single_quote ∷ rest))) (append_assoc text (byte ∷ []) help)
