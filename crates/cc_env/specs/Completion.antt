-- The candidates for a word if some given lines are the values that the word asks for.
use Rattle.std.specs.Prelude.{◌≡◌, ◌⊎◌, ℕ, List, length, Option, None, Some}
use Rattle.cc_arg.specs.declared.parts.ArgParts.{ArgParts as Arg}
use Rattle.cc_base.specs.declared.error.Error.{Error}
use Rattle.cc_base.specs.declared.error.Error.TheVariants.{Memory}
use Rattle.cc_candidates.specs.declared.candidate.CompletionCandidate.{CompletionCandidate}
use Rattle.cc_command.specs.Built.{built_tree}
use Rattle.cc_command.specs.Tree.{Tree}
use Rattle.cc_command.specs.ValueLists.{listed_tree}
use Rattle.cc_engine.specs.Asked.{Asks}
use Rattle.cc_engine.specs.Completion.{Completes, Refuses}
use Rattle.cc_engine.specs.Values.{MayReturn}
use Rattle.cc_env.specs.ValuesRead.{read_values}
use Rattle.cc_env.specs.WithLines.{with_lines}

-- the tree in which each argument with the source of the one that is asked for has the values of the
-- lines
abbrev pub tree_for : List ℕ → Option Arg → Tree → Tree
tree_for lines None tree = tree
tree_for lines (Some asked) tree = listed_tree asked (read_values asked lines).values tree

-- the possible results, with the candidates in the lines in the list of the lines
abbrev pub returned_for : MayReturn → List ℕ → Option Arg → MayReturn
returned_for returned lines None = returned
returned_for returned lines (Some asked) =
    with_lines returned (read_values asked lines).lines.candidates

-- The candidates for the word at the index, with these lines as the values of the argument that is
-- asked for there. If none is asked for, the lines do not count.
pub record CompletesWith (returned : MayReturn) (lines : List ℕ) (tree : Tree)
    (words : List (List ℕ)) (index : ℕ) (found : List CompletionCandidate) : Type 0 where
  pub asked : Option Arg
  pub asks : Asks (built_tree tree) words index asked
  pub completes : Completes (returned_for returned lines asked) (built_tree (tree_for lines asked tree))
      words index found

-- The tree after such a call: built, with the values of the lines in each argument with the source of
-- the one that is asked for.
pub record LeavesListed (lines : List ℕ) (old new : Tree) (words : List (List ℕ)) (index : ℕ)
    : Type 0 where
  pub asked : Option Arg
  pub asks : Asks (built_tree old) words index asked
  pub is : new ≡ built_tree (tree_for lines asked old)

-- The ends of such a call without candidates: as `complete_from` does, or out of memory after
-- arguments got the values of the lines.
abbrev pub RefusesWith : List ℕ → Tree → Tree → List (List ℕ) → ℕ → Error → Type 0
RefusesWith lines old new words index error = Refuses old new (length words) index error
    ⊎ ((error ≡ Memory) × ((asked : Arg) × Asks (built_tree old) words index (Some asked)
    × Refuses (listed_tree asked (read_values asked lines).values (built_tree old)) new
    (length words) index Memory))
