-- The cases and the arms that the bash script of a tree reads back to.
use Rattle.std.specs.Prelude.{◌≡◌, ℕ, List, [], ◌∷◌, ◌++◌, map, IsTrue, Option, Some, None, bytes_eq, codes, if◌then◌else◌}
use Rattle.std.specs.List.Sorted.{IsPermutation}
use Rattle.cc_base.specs.Differ.{AllDifferBy}
use Rattle.cc_command.specs.Tree.{Tree}
use Rattle.cc_bash.specs.Labels.{labels, root_label, shared_label}
use Rattle.cc_bash.specs.CaseTable.{tree_cases, run, run_end}
use Rattle.cc_bash.specs.Arms.{Arm, arm_of, tree_arms}
use Rattle.cc_command.specs.Quiet.{is_quiet_tree}
use Rattle.cc_generator.specs.Generators.{ShellSpec}
use Rattle.cc_bash.specs.Reader.{Table, bash_cases, bash_table}
use Rattle.cc_bash.specs.Script.{bash_script}
use Rattle.cc_bash.specs.Walk.{PathNode, all_path_nodes, label_at, level_of, path_nodes, root_path_node, walk}

-- the first arm with a label
abbrev pub arm_at : List Arm → List ℕ → Option Arm
arm_at [] label = None
arm_at (arm ∷ arms) label = if bytes_eq arm.label label then Some arm else arm_at arms label

-- the label of a node of a tree
abbrev pub path_node_label : Tree → PathNode → List ℕ
path_node_label tree here = label_at (root_label tree) here.path

-- the arm of a node of a tree, at the label of that node
abbrev pub path_node_arm : Tree → PathNode → Arm
path_node_arm tree here = arm_of (path_node_label tree here) (level_of here) here.tree

-- the arm of a table at the label to which its cases lead for some words, from the root's label on
abbrev pub arm_after : Option Table → List (List ℕ) → Option Arm
arm_after None words = None
arm_after (Some table) words = arm_at table.arms (run_end table.cases table.root words)

-- The script of a tree reads back to the tree's cases, and also to its arms if its possible values
-- are quiet. For any words, the cases lead along the labels of the walk by visible names, and so to
-- the label of its last node. The arms are exactly those of all nodes, one for each, at its label.
-- So the arm at the label to which words lead is the arm of the node that the walk reaches. If
-- values are quiet, this also holds for the table read from the script. No two nodes have the same
-- label.
pub record BashReads (tree : Tree) : Type 0 where
  pub cases : bash_cases (bash_script tree)
      ≡ Some (record { root = root_label tree; cases = tree_cases tree; arms = [] })
  pub table : IsTrue (is_quiet_tree tree) → bash_table (bash_script tree)
      ≡ Some (record { root = root_label tree; cases = tree_cases tree; arms = tree_arms tree })
  pub walks : (words : List (List ℕ)) →
      run (tree_cases tree) (root_label tree) words
      ≡ map (path_node_label tree) (path_nodes (root_path_node tree) words)
  pub ends : (words : List (List ℕ)) →
      run_end (tree_cases tree) (root_label tree) words
      ≡ path_node_label tree (walk (root_path_node tree) words)
  pub each_arm : IsPermutation (map (path_node_arm tree) (all_path_nodes tree)) (tree_arms tree)
  pub arms : (words : List (List ℕ)) →
      arm_at (tree_arms tree) (path_node_label tree (walk (root_path_node tree) words))
      ≡ Some (path_node_arm tree (walk (root_path_node tree) words))
  pub reached : IsTrue (is_quiet_tree tree) → (words : List (List ℕ)) →
      arm_after (bash_table (bash_script tree)) words
      ≡ Some (path_node_arm tree (walk (root_path_node tree) words))
  pub one_label : AllDifferBy (λ label. label) (labels tree)

-- the specification of the scripts
abbrev pub bash_spec : ShellSpec
bash_spec = record {
  script = λ tree. bash_script tree;
  Reads = λ tree. BashReads tree;
  clash = λ tree. shared_label tree;
  file = λ name. name ++ codes ".bash";
}
