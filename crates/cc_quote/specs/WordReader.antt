-- A word read by an automaton, which goes from state to state by characters.
use Rattle.std.specs.Prelude.{◌≡◌, ◌⊎◌, ℕ, ◌≤◌, Bool, List, [], ◌∷◌, ◌++◌, Option, Some, None, ◌==◌, if◌then◌else◌}
use Rattle.cc_base.specs.Bytes.{double_quote}

-- the word and the rest, if a word may end there
abbrev pub ended : Bool → List ℕ → List ℕ → Option (List ℕ × List ℕ)
ended may_end word rest = if may_end then Some (word, rest) else None

-- The word from a state and a word so far on, and the rest. It ends before the first byte that
-- leads to no state, and the result is `None` if no word may end at the state there. `next` leads
-- from state to state, and `added` adds to the word what a character spells, given its bytes.
abbrev pub word_from : {State : Type 0} → (State → ℕ → Option State)
    → (State → ℕ → List ℕ → List ℕ → List ℕ) → (State → Bool) → State → List ℕ → List ℕ
    → Option (List ℕ × List ℕ)
word_from next added may_end state word [] = ended (may_end state) word []
word_from next added may_end state word (byte ∷ rest) = elim (next state byte) [
  | Some after ↦ word_from next added may_end after (added state byte word (byte ∷ [])) rest
  | None ↦ ended (may_end state) word (byte ∷ rest)
]

-- what is read of a text after its first character, which must be `"`
abbrev pub after_double_quote : (List ℕ → Option (List ℕ × List ℕ)) → List ℕ
    → Option (List ℕ × List ℕ)
after_double_quote read [] = None
after_double_quote read (byte ∷ rest) = if byte == double_quote then read rest else None

-- A character from 128 on is read as its bytes are. Each of these bytes leads to one state, at
-- which all that follow stay, and each is added to the word.
pub record ReadsBytes {State : Type 0} (next : State → ℕ → Option State)
    (added : State → ℕ → List ℕ → List ℕ → List ℕ) : Type 0 where
  pub after : State → State
  pub leads : (state : State)
      → ((byte : ℕ) → 128 ≤ byte → next state byte ≡ None)
      ⊎ ((byte : ℕ) → 128 ≤ byte
      → (next state byte ≡ Some (after state)) × (next (after state) byte ≡ Some (after state)))
  pub grows : (state : State) (first byte : ℕ) (word run bytes : List ℕ) → 128 ≤ first → 128 ≤ byte
      → added (after state) byte (added state first word run) bytes
      ≡ added state first word (run ++ bytes)
  pub same : (state : State) (a b : ℕ) (word bytes : List ℕ) → 128 ≤ a → 128 ≤ b
      → added state a word bytes ≡ added state b word bytes
