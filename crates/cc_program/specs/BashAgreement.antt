-- The label to which the cases of a bash script lead, and the candidates there.
use Rattle.std.specs.Prelude.{◌≡◌, ◌⊎◌, ◌++◌, ℕ, List, [], false, true, get_or, Some, IsTrue}
use Rattle.cc_base.specs.declared.error.Error.{Error}
use Rattle.cc_base.specs.declared.error.Error.TheVariants.{LabelClash, Memory, NoCompletion, Write}
use Rattle.cc_base.specs.Partly.{partly}
use Rattle.cc_bash.specs.Arms.{tree_arms}
use Rattle.cc_bash.specs.CaseTable.{tree_cases, run_end}
use Rattle.cc_bash.specs.Labels.{root_label, shared_label}
use Rattle.cc_bash.specs.Reads.{BashReads, arm_at, path_node_arm, path_node_label}
use Rattle.cc_bash.specs.Script.{bash_script}
use Rattle.cc_bash.specs.Walk.{root_path_node, walk}
use Rattle.cc_candidates.specs.declared.candidate.CompletionCandidate.{CompletionCandidate}
use Rattle.cc_command.specs.Plain.{is_plain_tree}
use Rattle.cc_command.specs.Tree.{Tree}
use Rattle.cc_engine.specs.Completion.{Offers, is_in_range, words_before}
use Rattle.cc_base.specs.PlainName.{is_plain_name}
use Rattle.cc_engine.specs.Values.{MayReturn}
use Rattle.cc_engine.specs.declared.walking.state.State.{State}
use Rattle.cc_engine.specs.Destination.{WordsLeadTo, WordsLeadOnlyTo}
use Rattle.cc_engine.specs.Visible.{HasNoHiddenAlias}

-- Over the words the cases of the root's script lead to the label of the node at which the walk by
-- visible names ends. This is that node, and the arm at that label is its arm.
pub record BashLeadsTo (root : Tree) (words : List (List ℕ)) (tree : Tree) : Type 0 where
  pub label : run_end (tree_cases root) (root_label root) words
      ≡ path_node_label root (walk (root_path_node root) words)
  pub node : (walk (root_path_node root) words).tree ≡ tree
  pub arm : arm_at (tree_arms root) (run_end (tree_cases root) (root_label root) words)
      ≡ Some (path_node_arm root (walk (root_path_node root) words))

-- The tree and the bin name are plain, and none of the words before the index is a hidden alias at
-- the command that reads it.
pub record ArePlain (root : Tree) (bin_name : List ℕ) (words : List (List ℕ)) (index : ℕ)
    : Type 0 where
  pub tree : IsTrue (is_plain_tree root)
  pub name : IsTrue (is_plain_name bin_name)
  pub visible : HasNoHiddenAlias root (words_before root.node words index)

-- The words before the index lead to one node and one state, and to no others. The candidates are
-- some that may be offered there for the word at the index. The bash script of the root reads back,
-- and over the same words its cases lead to the label of this node.
pub record AgreesWithBash (sources : MayReturn) (root : Tree) (words : List (List ℕ)) (index : ℕ)
    (found : List CompletionCandidate) : Type 0 where
  pub tree : Tree
  pub state : State
  pub leads : WordsLeadTo root (words_before root.node words index) tree state
  pub only : WordsLeadOnlyTo root (words_before root.node words index) tree state
  pub offers : Offers sources tree state (get_or words index []) found
  pub reads : BashReads root
  pub bash_leads : BashLeadsTo root (words_before root.node words index) tree

-- The errors of a call that writes a script and then gathers candidates, by what its sink holds
-- before and after it:
--
-- - out of memory: the tree is unchanged and nothing is written, or the tree is built, and a
--   beginning of the script is written;
-- - a write failed: the tree is built, and a beginning of the script is written;
-- - two nodes share a label: the tree is built, and nothing is written;
-- - the index is out of range: the tree is built, and the script is written.
abbrev pub FailsBefore : Tree → Tree → Tree → List ℕ → List ℕ → ℕ → ℕ → Error → Type 0
FailsBefore old new built before after count index Memory =
    ((new ≡ old) × (after ≡ before))
    ⊎ ((new ≡ built) × (partly after before (bash_script built) ≡ true))
FailsBefore old new built before after count index (Write kind) =
    (new ≡ built) × (partly after before (bash_script built) ≡ true)
FailsBefore old new built before after count index (LabelClash label) =
    (new ≡ built) × (shared_label built ≡ Some label) × (after ≡ before)
FailsBefore old new built before after count index NoCompletion =
    (new ≡ built) × (is_in_range new.node count index ≡ false)
    × (after ≡ before ++ bash_script built)
FailsBefore old new built before after count index _ = ⊥
