-- The destination of words.
use Rattle.std.specs.Prelude.{ℕ, List, Bool, ◌≡◌}
use Rattle.cc_command.specs.Tree.{Tree}
use Rattle.cc_engine.specs.declared.walking.state.State.{State}
use Rattle.cc_engine.specs.Reach.{Reach}
use Rattle.cc_engine.specs.Blocks.{Block, AreBlocks, join, start, state_after}

-- The words lead from the root to this tree. The words after the last descent consist of blocks
-- that lead to the state there.
pub record WordsLeadTo (root : Tree) (words : List (List ℕ)) (tree : Tree) (state : State)
    : Type 0 where
  pub tail : List (List ℕ)
  pub before : Bool
  pub blocks : List Block
  pub reach : Reach root words tree tail before
  pub are : AreBlocks tree.node.arguments 1 before blocks
  pub joined : join blocks ≡ tail
  pub ends : state ≡ state_after tree.node.arguments (start before) blocks

-- the words lead to no other tree or state
abbrev pub WordsLeadOnlyTo : Tree → List (List ℕ) → Tree → State → Type 0
WordsLeadOnlyTo root words tree state =
    (other : Tree) (elsewhere : State) → WordsLeadTo root words other elsewhere → (other ≡ tree)
    × (elsewhere ≡ state)
