-- Every list of words can be divided into blocks.
use Rattle.std.proofs.Common.{◌≡◌, ◌<◌, ◌≤◌, ◌+◌, ℕ, suc, List, [], ◌∷◌, ◌++◌, length, Bool, true, false, max, Some, None, refl, inl, inr, ap, sym, subst, arith, add-zero, zero-add, one-add}
use Rattle.std.specs.List.{All}
use Rattle.std.proofs.lemmas.Bool.{cases_Bool, cases_lt, lt-ltb}
use Rattle.std.proofs.lemmas.List.Elements.{All-nil, All-cons}
use Rattle.cc_arg.specs.declared.parts.ArgParts.{ArgParts as Arg}
use Rattle.cc_engine.specs.Blocks.{AreBlocks, BeginsWithNoFollower, BeginsWithNoValues, Block, Dashes, Flag, Follows, IsValueAt, Opened, Values, follows, is_value, is_value_at, join, position_after}
use Rattle.cc_engine.specs.Lookup.{allows_hyphens_at, max_values, capacity_at, positional_at}
use Rattle.cc_engine.specs.WordClasses.{class_of}
use Rattle.cc_engine.specs.declared.walking.word_class.WordClass.{WordClass}
use Rattle.cc_engine.specs.declared.walking.word_class.WordClass.TheVariants.{Closed, Escape, Opens, Plain, Unknown}

capacity_some : (arguments : List Arg) (position : ℕ) → 1 ≤ capacity_at arguments position
unfolding capacity_at
capacity_some arguments position = elim (positional_at arguments position) as (λ o. 1 ≤ elim o [ None ↦ 1 | Some a ↦ max 1 (max_values a) ]) [ None ↦ omega arith | Some a ↦ omega arith ]

-- blocks that spell these words
record Cut (arguments : List Arg) (position : ℕ) (escaped : Bool) (words : List (List ℕ)) : Type 0 where
  blocks : List Block
  are : AreBlocks arguments position escaped blocks
  spell : join blocks ≡ words

-- the same, but the first block does not consist of values
abbrev OtherCut : List Arg → ℕ → Bool → List (List ℕ) → Type 0
OtherCut arguments position escaped words = (cut : Cut arguments position escaped words) × BeginsWithNoValues arguments cut.blocks

-- The values that are still taken, after k values out of at most `most`, and the blocks after them.
record Taken (IsTaken : List ℕ → Type 0) (most : ℕ) (Ends : List Block → Type 0) (Are : ℕ → List Block → Type 0) (k : ℕ) (words : List (List ℕ)) : Type 0 where
  values : List (List ℕ)
  blocks : List Block
  all : All IsTaken values
  fits : k + length values ≤ most
  next : k + length values < most → Ends blocks
  are : Are (k + length values) blocks
  spell : values ++ join blocks ≡ words

module _ (IsTaken : List ℕ → Type 0) (most : ℕ) (Ends : List Block → Type 0) (Are : ℕ → List Block → Type 0) (k : ℕ) where
  none_taken : (words : List (List ℕ)) (blocks : List Block) → k ≤ most → (k < most → Ends blocks) → Are k blocks → join blocks ≡ words → Taken IsTaken most Ends Are k words
  none_taken words blocks fits next are spell =
      record { values = []; blocks = blocks; all = All-nil IsTaken; fits = rw add-zero fits; next = rw add-zero next; are = rw add-zero are; spell = spell }

  one_taken : (word : List ℕ) (words : List (List ℕ)) → IsTaken word → Taken IsTaken most Ends Are (suc k) words → Taken IsTaken most Ends Are k (word ∷ words)
  one_taken word words is c = let same : suc k + length c.values ≡ k + suc (length c.values) = omega arith in record {
    values = word ∷ c.values;
    blocks = c.blocks;
    all = All-cons IsTaken word c.values is c.all;
    fits = rw same at c.fits;
    next = rw same at c.next;
    are = rw same at c.are;
    spell = ap (λ s. word ∷ s) c.spell;
  }

-- the values that an option still takes
abbrev OptionCut : List Arg → ℕ → Arg → ℕ → List (List ℕ) → Type 0
OptionCut arguments position a =
    Taken (Follows arguments a) (max_values a) (λ bs. BeginsWithNoFollower arguments a (join bs)) (λ n bs. AreBlocks arguments position false bs)

-- the values that still belong to a run
abbrev RunCut : List Arg → ℕ → Bool → ℕ → List (List ℕ) → Type 0
RunCut arguments position escaped =
    Taken (IsValueAt arguments position escaped) (capacity_at arguments position) (BeginsWithNoValues arguments) (λ n bs. AreBlocks arguments (position_after arguments position n) escaped bs)

record Cuts (arguments : List Arg) (words : List (List ℕ)) : Type 0 where
  plain : (position : ℕ) (escaped : Bool) → Cut arguments position escaped words
  option : (position : ℕ) (a : Arg) (k : ℕ) → k ≤ max_values a → OptionCut arguments position a k words
  run : (position : ℕ) (escaped : Bool) (k : ℕ) → k ≤ capacity_at arguments position → RunCut arguments position escaped k words

cuts_none : (arguments : List Arg) → Cuts arguments []
cuts_none arguments = record {
  plain = λ position escaped. record { blocks = []; are = tt; spell = refl };
  option = λ position a k fits. none_taken _ _ _ _ k [] [] fits (λ h. tt) tt refl;
  run = λ position escaped k fits. none_taken _ _ _ _ k [] [] fits (λ h. tt) tt refl;
}

module _ (arguments : List Arg) (word : List ℕ) (words : List (List ℕ)) (rest : Cuts arguments words) where
  other_class : (position : ℕ) (class : WordClass) → class_of arguments word ≡ class → is_value (allows_hyphens_at arguments position) class ≡ false → OtherCut arguments position false (word ∷ words)
  other_class position Escape is e = let c = rest.plain position true in (record { blocks = Dashes word ∷ c.blocks; are = (refl, is, c.are); spell = ap (λ s. word ∷ s) c.spell }, tt)
  other_class position Plain is e = cc
  other_class position Unknown is e = let c = rest.plain position false in (record { blocks = Flag word ∷ c.blocks; are = (refl, inr (is, e), c.are); spell = ap (λ s. word ∷ s) c.spell }, tt)
  other_class position Closed is e = let c = rest.plain position false in (record { blocks = Flag word ∷ c.blocks; are = (refl, inl is, c.are); spell = ap (λ s. word ∷ s) c.spell }, tt)
  other_class position (Opens a) is e = let c = rest.option position a 0 (omega arith) in (
    record {
      blocks = Opened word a c.values ∷ c.blocks;
      are = (refl, is, c.all, rw zero-add at c.fits, rw zero-add at c.next, c.are);
      spell = ap (λ s. word ∷ s) c.spell;
    },
    tt,
  )

  other : (position : ℕ) (escaped : Bool) → is_value_at arguments position escaped word ≡ false → OtherCut arguments position escaped (word ∷ words)
  other position true e = cc
  other position false e = other_class position (class_of arguments word) refl e

  values : (position : ℕ) (escaped : Bool) → IsValueAt arguments position escaped word → Cut arguments position escaped (word ∷ words)
  values position escaped e = let c = rest.run position escaped 1 (capacity_some arguments position) in record {
    blocks = Values word c.values ∷ c.blocks;
    are = (e, c.all, rw one-add at c.fits, rw one-add at c.next, rw one-add at c.are);
    spell = ap (λ s. word ∷ s) c.spell;
  }

  plain : (position : ℕ) (escaped : Bool) → Cut arguments position escaped (word ∷ words)
  plain position escaped = elim (cases_Bool (is_value_at arguments position escaped word)) [
    | inl t ↦ values position escaped t
    | inr f ↦ (other position escaped f).0
  ]

  left : (position : ℕ) (a : Arg) (k : ℕ) → k ≤ max_values a → (k < max_values a → follows a (class_of arguments word) ≡ false) → OptionCut arguments position a k (word ∷ words)
  left position a k fits leaves = let c = plain position false in
      none_taken _ _ _ _ k (word ∷ words) c.blocks fits (λ h. subst (λ s. BeginsWithNoFollower arguments a s) (sym c.spell) (leaves h)) c.are c.spell

  option : (position : ℕ) (a : Arg) (k : ℕ) → k ≤ max_values a → OptionCut arguments position a k (word ∷ words)
  option position a k fits = elim (cases_lt k (max_values a)) [
    | inl below ↦ elim (cases_Bool (follows a (class_of arguments word))) [
      | inl t ↦ one_taken _ _ _ _ k word words t (rest.option position a (suc k) (omega arith))
      | inr f ↦ left position a k fits (λ h. f)
    ]
    | inr full ↦ left position a k fits (λ h. absurd (omega arith))
  ]

  run : (position : ℕ) (escaped : Bool) (k : ℕ) → k ≤ capacity_at arguments position → RunCut arguments position escaped k (word ∷ words)
  run position escaped k fits = elim (cases_lt k (capacity_at arguments position)) [
    | inl below ↦ elim (cases_Bool (is_value_at arguments position escaped word)) [
      | inl t ↦ one_taken _ _ _ _ k word words t (rest.run position escaped (suc k) (omega arith))
      | inr f ↦ let c = other position escaped f in
          none_taken _ _ _ _ k (word ∷ words) c.0.blocks fits (λ h. c.1) (rw (lt-ltb k (capacity_at arguments position) below) c.0.are) c.0.spell
    ]
    | inr full ↦ let c = plain (position_after arguments position k) escaped in
        none_taken _ _ _ _ k (word ∷ words) c.blocks fits (λ h. absurd (omega arith)) c.are c.spell
  ]

cuts : (arguments : List Arg) (words : List (List ℕ)) → Cuts arguments words
cuts arguments [] = cuts_none arguments
cuts arguments (word ∷ words) = let rest = cuts arguments words in record { plain = plain arguments word words rest; option = option arguments word words rest; run = run arguments word words rest }

-- the theorem: every tail can be divided into blocks
pub blocks_exist : (arguments : List Arg) (position : ℕ) (escaped : Bool) (words : List (List ℕ)) → (bs : List Block) × AreBlocks arguments position escaped bs × (join bs ≡ words)
blocks_exist arguments position escaped words = let c = (cuts arguments words).plain position escaped in (c.blocks, c.are, c.spell)
