-- The blocks: a division of the words after the last descent, and the option or positional that may
-- take more values after them.
use Rattle.std.specs.Prelude.{ℕ, suc, List, [], ◌∷◌, ◌++◌, ◌≡◌, ◌+◌, ◌<◌, ◌≤◌, ◌||◌, ◌⊎◌, length, Bool, true, false, nat_lt, if◌then◌else◌}
use Rattle.std.specs.List.{All}
use Rattle.cc_arg.specs.declared.parts.ArgParts.{ArgParts as Arg}
use Rattle.cc_engine.specs.declared.walking.word_class.WordClass.{WordClass}
use Rattle.cc_engine.specs.declared.walking.word_class.WordClass.TheVariants.{Escape, Opens, Unknown, Closed, Plain}
use Rattle.cc_engine.specs.declared.walking.state.Pending.TheVariants.{Nothing, OptionOpen, PositionalRun, PositionMoved}
use Rattle.cc_engine.specs.declared.walking.state.State.{State}
use Rattle.cc_engine.specs.Lookup.{max_values, capacity_at, allows_hyphens_at}
use Rattle.cc_engine.specs.WordClasses.{class_of}

-- an open option takes the word
abbrev pub follows : Arg → WordClass → Bool
follows option Escape = false
follows option Plain = true
follows option (Opens other) = option.allow_hyphen_values
follows option Unknown = option.allow_hyphen_values
follows option Closed = option.allow_hyphen_values

-- an unescaped word is a positional value, depending on whether the position allows hyphens
abbrev pub is_value : Bool → WordClass → Bool
is_value hyphens Plain = true
is_value hyphens Unknown = hyphens
is_value hyphens _ = false

pub data Block : Type 0 where
  -- E: an unescaped `--`
  Dashes : List ℕ → Block
  -- O(option, k): an opener and k values
  Opened : (opener : List ℕ) (option : Arg) (values : List (List ℕ)) → Block
  -- P(position, k): k values of the position
  Values : (first : List ℕ) (more : List (List ℕ)) → Block
  -- F: any other unescaped word
  Flag : List ℕ → Block

abbrev pub words_of : Block → List (List ℕ)
words_of (Dashes word) = word ∷ []
words_of (Opened opener option values) = opener ∷ values
words_of (Values first more) = first ∷ more
words_of (Flag word) = word ∷ []

abbrev pub join : List Block → List (List ℕ)
join [] = []
join (b ∷ bs) = words_of b ++ join bs

module _ (arguments : List Arg) where
  abbrev pub Follows : Arg → List ℕ → Type 0
  Follows option word = follows option (class_of arguments word) ≡ true

  abbrev pub is_value_at : ℕ → Bool → List ℕ → Bool
  is_value_at position escaped word =
      escaped || is_value (allows_hyphens_at arguments position) (class_of arguments word)

  abbrev pub IsValueAt : ℕ → Bool → List ℕ → Type 0
  IsValueAt position escaped word = is_value_at position escaped word ≡ true

  -- the option does not take the next word, if there is one
  abbrev pub BeginsWithNoFollower : Arg → List (List ℕ) → Type 0
  BeginsWithNoFollower option [] = Unit {0}
  BeginsWithNoFollower option (word ∷ words) = follows option (class_of arguments word) ≡ false

  abbrev pub BeginsWithNoValues : List Block → Type 0
  BeginsWithNoValues (Values first more ∷ bs) = ⊥
  BeginsWithNoValues _ = Unit {0}

  -- the position after k values of a position
  abbrev pub position_after : ℕ → ℕ → ℕ
  position_after position k =
      if nat_lt k (capacity_at arguments position) then position else position + 1

  -- the blocks follow each other, from this position on
  abbrev pub AreBlocks : ℕ → Bool → List Block → Type 0
  AreBlocks position escaped [] = Unit {0}
  AreBlocks position escaped (Dashes word ∷ bs) =
      (escaped ≡ false)
      × (class_of arguments word ≡ Escape)
      × AreBlocks position true bs
  AreBlocks position escaped (Opened opener option values ∷ bs) =
      (escaped ≡ false)
      × (class_of arguments opener ≡ Opens option)
      × All (Follows option) values
      × (length values ≤ max_values option)
      × (length values < max_values option → BeginsWithNoFollower option (join bs))
      × AreBlocks position false bs
  AreBlocks position escaped (Values first more ∷ bs) =
      IsValueAt position escaped first
      × All (IsValueAt position escaped) more
      × (suc (length more) ≤ capacity_at arguments position)
      × (suc (length more) < capacity_at arguments position → BeginsWithNoValues bs)
      × AreBlocks (position_after position (suc (length more))) escaped bs
  AreBlocks position escaped (Flag word ∷ bs) =
      (escaped ≡ false)
      × ((class_of arguments word ≡ Closed) ⊎
      ((class_of arguments word ≡ Unknown) × (allows_hyphens_at arguments position ≡ false)))
      × AreBlocks position false bs

-- the state before the first word at a node
abbrev pub start : Bool → State
start escaped = record { position = 1; escaped = escaped; pending = Nothing }

-- the state after one block
abbrev pub after_block : List Arg → ℕ → Bool → Block → State
after_block arguments position escaped (Dashes word) =
    record { position = position; escaped = true; pending = Nothing }
after_block arguments position escaped (Opened opener option values) = record {
  position = position;
  escaped = escaped;
  pending = if nat_lt (length values) (max_values option) then OptionOpen option (length values)
      else Nothing;
}
after_block arguments position escaped (Values first more) = record {
  position = position_after arguments position (suc (length more));
  escaped = escaped;
  pending = if nat_lt (suc (length more)) (capacity_at arguments position)
      then PositionalRun (suc (length more)) else if escaped then PositionMoved else Nothing;
}
after_block arguments position escaped (Flag word) =
    record { position = position; escaped = escaped; pending = Nothing }

-- the state after all blocks; the last block decides what is pending
abbrev pub state_after : List Arg → State → List Block → State
state_after arguments state [] = state
state_after arguments state (b ∷ bs) =
    state_after arguments (after_block arguments state.position state.escaped b) bs
