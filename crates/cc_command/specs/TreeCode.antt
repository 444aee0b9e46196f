-- The encoding of a tree as a list, by which proofs distinguish trees.
use Rattle.std.specs.Prelude.{◌≡◌, List, [], ◌∷◌, ◌++◌, Option, Some, None, refl}
use Rattle.std.specs.Coded.{Coded, code_by, coded×, coded_list, coded_option}
use Rattle.std.proofs.Common.{ap, ◌∙◌, append_assoc, append-nil, sym}
use Rattle.cc_command.specs.contracts.node.Node as contracts_of_node
use Rattle.cc_command.specs.declared.node.Node.{Node}
use Rattle.cc_command.specs.Tree.{Forest, none, more, Tree}

-- A forest is encoded as a list of marks: each node, then the nodes below it, then the siblings
-- after it, with an empty mark at the end of each row of siblings.
abbrev marks_of : Forest → List (Option Node)
marks_of none = None ∷ []
marks_of (more node below rest) = Some node ∷ (marks_of below ++ marks_of rest)

-- adds one mark to the forests that the later marks encode
abbrev stacked : Option Node → List Forest → List Forest
stacked None later = none ∷ later
stacked (Some node) [] = []
stacked (Some node) (below ∷ []) = []
stacked (Some node) (below ∷ rest ∷ later) = more node below rest ∷ later

-- the forests that some marks encode, beginning with that of the first mark
abbrev forests_of : List (Option Node) → List Forest
forests_of [] = []
forests_of (mark ∷ marks) = stacked mark (forests_of marks)

-- the first of some forests
abbrev first_forest : List Forest → Forest
first_forest [] = none
first_forest (forest ∷ forests) = forest

-- the forest that these marks encode
abbrev from_marks : List (Option Node) → Forest
from_marks marks = first_forest (forests_of marks)

-- the marks of a forest encode that forest, followed by those that the later marks encode
forests_of-marks_of : (forest : Forest) (later : List (Option Node))
    → forests_of (marks_of forest ++ later) ≡ forest ∷ forests_of later
forests_of-marks_of none later = refl
forests_of-marks_of (more node below rest) later =
    ap (λ marks. stacked (Some node) (forests_of marks))
    (append_assoc (marks_of below) (marks_of rest) later) ∙
    ap (stacked (Some node))
    (forests_of-marks_of below (marks_of rest ++ later) ∙ ap (λ forests. below ∷ forests)
    (forests_of-marks_of rest later))

-- decoding the marks of a forest gives back the forest
pub from_marks-marks_of : (forest : Forest) → from_marks (marks_of forest) ≡ forest
from_marks-marks_of forest =
    ap from_marks (sym (append-nil (marks_of forest))) ∙ ap first_forest
    (forests_of-marks_of forest [])

-- the tree that a node and marks encode
abbrev tree_from : Node × List (Option Node) → Tree
tree_from stored = record { node = stored.0; children = from_marks stored.1 }

-- the encoding of a node
abbrev node_code : Coded Node
node_code = contracts_of_node.the_row.coded

-- the encoding of a tree: its node and the marks of its children
abbrev pub tree_code : Coded Tree
tree_code = code_by (Node × List (Option Node))
    (coded× node_code (coded_list (coded_option node_code)))
    (λ tree. (tree.node, marks_of tree.children)) tree_from
    (λ tree. ap (λ children. let t : Tree = record { node = tree.node; children = children } in t)
    (from_marks-marks_of tree.children))
