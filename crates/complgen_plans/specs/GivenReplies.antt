-- The candidates for a word of a command line, with given lines as the values that it asks for, and
-- the reply with them.
use Rattle.std.specs.Prelude.{◌≡◌, ℕ, List, Option, Result, false, length, true}
use Rattle.cc_env.specs.Completion.{CompletesWith}
use Rattle.cc_base.specs.declared.failures.Failures.{Failures}
use Rattle.cc_candidates.specs.declared.candidate.CompletionCandidate.{CompletionCandidate}
use Rattle.cc_command.specs.Built.{built_tree}
use Rattle.cc_command.specs.Tree.{Tree}
use Rattle.cc_engine.specs.Completion.{is_in_range}
use Rattle.complgen_plans.specs.Replies.{IsOutOfRange, IsReplyOf, Paths, only_paths}
use Rattle.complgen_scripts.specs.Writing.{Finishes}
use Rattle.complgen_scripts.specs.declared.refusals.Refusal.{Refusal}

-- the candidates are possible ones for the word at the index, with these lines as its values
pub record AreFoundWith (Finds : Paths) (lines : List ℕ) (words : List (List ℕ)) (index : ℕ)
    (tree : Tree) (found : List CompletionCandidate) : Type 0 where
  pub in_range : is_in_range (built_tree tree).node (length words) index ≡ true
  pub completes : CompletesWith (only_paths Finds) lines tree words index found

-- the outcomes of writing these candidates
abbrev pub EndsReplyWith : {S : Type 0} → (S → List ℕ) → (S → Failures) → Paths → List ℕ
    → List (List ℕ) → ℕ → Option (List ℕ) → S → S → Result (Unit {0}) Refusal → Type 0
EndsReplyWith taken failed Finds lines words index file old new result =
    Finishes taken failed false (IsOutOfRange (length words) index)
    (IsReplyOf (AreFoundWith Finds lines words index)) old new file result
