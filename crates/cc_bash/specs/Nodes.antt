-- The meaning of nodes, paths, cases and parts of the words in the code.
use Rattle.std.specs.Prelude.{ℕ, ◌-◌, List, [], ◌∷◌, ◌++◌, length, take, slice_get, unwrap_or, if◌then◌else◌}
use Rattle.cc_arg.specs.declared.parts.ArgParts.{ArgParts as Arg}
use Rattle.cc_arg.specs.Arguments.{is_positional}
use Rattle.cc_generator.specs.Preorder.{Levelled}
use Rattle.cc_bash.specs.Arms.{long_words, short_words, value_names}
use Rattle.cc_bash.specs.CaseTable.{Case}
use Rattle.cc_bash.specs.Labels.{Labelled, labelled_node}
use Rattle.cc_bash.specs.declared.cases.Case.{Case as CaseValue}
use Rattle.cc_bash.specs.declared.nodes.LabelledNode.{LabelledNode}
use Rattle.cc_bash.specs.declared.words.Part.{Part}
use Rattle.cc_bash.specs.declared.words.Part.TheVariants.{Shorts, Longs, Values}

-- a node as a clause sees it
abbrev pub labelled_of : LabelledNode → Labelled
labelled_of node = record {
  parent = node.parent;
  label = node.label;
  sort_text = node.sort_text;
  level = node.level;
  tree = node.command.now;
}

-- a case as a clause sees it
abbrev pub case_of : CaseValue → Case
case_of c = record { from = c.from.now; word = c.word.now; to = c.to.now }

-- the last of the given labels, or the root's label if there are none
abbrev pub last_label : List ℕ → List (List ℕ) → List ℕ
last_label root path = unwrap_or (slice_get path (length path - 1)) root

-- the node that comes next in preorder, after a path with the given labels, without the root's. Its
-- own path begins with some of these labels, as many as its level requires.
abbrev pub next_labelled : List ℕ → List (List ℕ) → Levelled → Labelled
next_labelled root path node =
    labelled_node (last_label root (take (node.level - 2) path)) node.level node.tree

-- the labels of the path to that node
abbrev pub next_path : List ℕ → List (List ℕ) → Levelled → List (List ℕ)
next_path root path node = take (node.level - 2) path ++ (next_labelled root path node).label ∷ []

-- the words of an argument that belong to a part
abbrev pub part_words : Part → Arg → List (List ℕ)
part_words Shorts argument = short_words argument
part_words Longs argument = long_words argument
part_words Values argument = if is_positional argument then value_names argument else []
