-- The readers of fish's words read a character as they read its bytes.
use Rattle.std.proofs.Common.{◌≡◌, ◌==◌, ℕ, ◌≤◌, false, List, ◌++◌, Some, codes, inl, inr, refl, sym, ◌∙◌, ap, arith, append_assoc}
use Rattle.std.proofs.lemmas.Bool.Decides.{nat_tests}
use Rattle.cc_quote.specs.FishQuote.{fish_sign, next_quote, unescaped, word_after, fish_next, fish_added, double_next}
use Rattle.cc_quote.specs.FishQuote.FishSign.{other}
use Rattle.cc_quote.specs.WordReader.{ReadsBytes}
use Rattle.cc_quote.specs.declared.fish_reader.QuoteState.{QuoteState}
use Rattle.cc_quote.specs.declared.fish_reader.QuoteState.TheVariants.{Bare, BareEscaped, InSingle, InSingleEscaped, InDouble, InDoubleEscaped}

-- a byte from 128 on has no special meaning
high_sign : (byte : ℕ) → 128 ≤ byte → fish_sign byte ≡ other
unfolding fish_sign
high_sign byte h = grind (arith, nat_tests)

-- a byte from 128 on spells itself after a backslash
high_unescaped : (byte : ℕ) (bytes : List ℕ) → 128 ≤ byte → unescaped byte bytes ≡ bytes
high_unescaped byte bytes h =
    let t : byte == 116 ≡ false = grind (arith, nat_tests) in
    let n : byte == 110 ≡ false = grind (arith, nat_tests) in
    rw (t, n) refl

-- the state after such a byte
abbrev after_other : QuoteState → QuoteState
after_other Bare = Bare
after_other BareEscaped = Bare
after_other InSingle = InSingle
after_other InSingleEscaped = InSingle
after_other _ = InDouble

leads : (state : QuoteState) (byte : ℕ) → 128 ≤ byte → fish_next state byte ≡ Some (after_other state)
leads state byte h = ap (next_quote state) (high_sign byte h) ∙ by state
  where
    by : (state : QuoteState) → next_quote state other ≡ Some (after_other state)
    by Bare = refl
    by state = refl

after_other-twice : (state : QuoteState) → after_other (after_other state) ≡ after_other state
after_other-twice Bare = refl
after_other-twice state = refl

-- the word after such a byte
high_added : (state : QuoteState) (byte : ℕ) (word bytes : List ℕ) → 128 ≤ byte → fish_added state byte word bytes ≡ word_after state other 128 word bytes
high_added state byte word bytes h = ap (λ s. word_after state s byte word bytes) (high_sign byte h) ∙ by state
  where
    by : (state : QuoteState) → word_after state other byte word bytes ≡ word_after state other 128 word bytes
    by BareEscaped = ap (λ b. word ++ b) (high_unescaped byte bytes h)
    by Bare = refl
    by state = refl

-- two such bytes in a row
more-other : (state : QuoteState) (word run bytes : List ℕ)
    → word_after (after_other state) other 128 (word_after state other 128 word run) bytes ≡ word_after state other 128 word (run ++ bytes)
more-other InSingleEscaped word run bytes = append_assoc (word ++ codes "\\") run bytes
more-other InDoubleEscaped word run bytes = append_assoc (word ++ codes "\\") run bytes
more-other state word run bytes = append_assoc word run bytes

grows : (state : QuoteState) (first byte : ℕ) (word run bytes : List ℕ) → 128 ≤ first → 128 ≤ byte
    → fish_added (after_other state) byte (fish_added state first word run) bytes ≡ fish_added state first word (run ++ bytes)
grows state first byte word run bytes h k =
    high_added (after_other state) byte (fish_added state first word run) bytes k
    ∙ ap (λ w. word_after (after_other state) other 128 w bytes) (high_added state first word run h)
    ∙ more-other state word run bytes
    ∙ sym (high_added state first word (run ++ bytes) h)

same : (state : QuoteState) (a b : ℕ) (word bytes : List ℕ) → 128 ≤ a → 128 ≤ b → fish_added state a word bytes ≡ fish_added state b word bytes
same state a b word bytes h k = high_added state a word bytes h ∙ sym (high_added state b word bytes k)

pub fish_reads : ReadsBytes fish_next fish_added
fish_reads = record {
  after = after_other;
  leads = λ state. inr (λ byte h. (leads state byte h, leads (after_other state) byte h ∙ ap Some (after_other-twice state)));
  grows = grows;
  same = same;
}

pub double_reads : ReadsBytes double_next fish_added
double_reads = record {
  after = after_other;
  leads = elim [
    | InDouble ↦ inr (λ byte h. (leads InDouble byte h, leads InDouble byte h))
    | InDoubleEscaped ↦ inr (λ byte h. (leads InDoubleEscaped byte h, leads InDouble byte h))
    | _ ↦ inl (λ byte h. refl)
  ];
  grows = grows;
  same = same;
}
