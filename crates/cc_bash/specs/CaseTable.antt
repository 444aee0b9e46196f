-- The case table of a bash script, and the labels to which it leads.
use Rattle.std.specs.Prelude.{ℕ, List, [], ◌∷◌, ◌&&◌, Bool, map, flat_map, bytes_eq, if◌then◌else◌}
use Rattle.std.specs.Ordering.{is_lt, nat_cmp, ordering_then}
use Rattle.std.specs.Cmp.Lexicographic.{slice_cmp}
use Rattle.cc_base.specs.Sorting.{in_order}
use Rattle.cc_command.specs.Tree.{Tree}
use Rattle.cc_command.specs.Names.{visible_names}
use Rattle.cc_bash.specs.Labels.{Labelled, labelled_commands}

-- a case: from one label a word leads to another
pub record Case : Type 0 where
  pub from : List ℕ
  pub word : List ℕ
  pub to : List ℕ

-- the cases that lead to a node, one for each of its visible names
abbrev pub node_cases : Labelled → List Case
node_cases node =
    map (λ name. let c : Case = record { from = node.parent; word = name; to = node.label } in c)
    (visible_names node.tree.node)

-- whether one case comes before another: by the bytes of the label from which it leads, then of the
-- word, then of the label to which it leads
abbrev pub case_below : Case → Case → Bool
case_below one other =
    is_lt (ordering_then (slice_cmp nat_cmp one.from other.from)
    (ordering_then (slice_cmp nat_cmp one.word other.word) (slice_cmp nat_cmp one.to other.to)))

-- the cases of a tree, in order
unfoldable pub tree_cases : Tree → List Case
tree_cases tree = in_order case_below (flat_map node_cases (labelled_commands tree))

-- the label to which the first case leads that fits the label and the word; the same label if none
-- fits
abbrev pub next_label : List Case → List ℕ → List ℕ → List ℕ
next_label [] label word = label
next_label (c ∷ cases) label word =
    if bytes_eq c.from label && bytes_eq c.word word then c.to else next_label cases label word

-- the label, and the label after each of the words
abbrev pub run : List Case → List ℕ → List (List ℕ) → List (List ℕ)
run cases label [] = label ∷ []
run cases label (word ∷ words) = label ∷ run cases (next_label cases label word) words

-- the last of some texts, or the given text if there are none
abbrev pub last_or : List ℕ → List (List ℕ) → List ℕ
last_or text [] = text
last_or text (next ∷ texts) = last_or next texts

-- the label after all words
abbrev pub run_end : List Case → List ℕ → List (List ℕ) → List ℕ
run_end cases label words = last_or label (run cases label words)
