-- The text that is written when a node is entered and when it is left.
use Rattle.std.specs.Prelude.{ℕ, List, [], ◌∷◌, ◌++◌, if◌then◌else◌}
use Rattle.cc_command.specs.Tree.{Tree, has_nodes}
use Rattle.cc_base.specs.Bytes.{line_feed}
use Rattle.cc_generator.specs.Visits.{Keyed, Step, enter, leave}
use Rattle.cc_zsh.specs.Nested.{arm_begins, arm_ends, block_text, nested_ends, nested_begins}

-- the key of a node is the name by which it is reached
abbrev pub last_name : List ℕ → List ℕ → List ℕ
last_name key name = name

-- the text before the arms of a node, on its own line, if it has children
unfoldable pub nested_opens : Tree → List ℕ
nested_opens tree =
    if has_nodes tree.children then line_feed ∷ nested_begins tree.node else []

-- the text after those arms
unfoldable pub nested_closes : Tree → List ℕ
nested_closes tree = if has_nodes tree.children then nested_ends else []

-- the word of an arm, the block of its node, and the text before the arms of its children
unfoldable pub enter_text : Keyed (List ℕ) → List ℕ
enter_text visit =
    arm_begins visit.key (block_text visit.above visit.tree) ++ nested_opens visit.tree

-- the text after those arms, and the end of the arm
unfoldable pub leave_text : Tree → List ℕ
leave_text tree = nested_closes tree ++ arm_ends

abbrev pub step_text : Step (List ℕ) → List ℕ
step_text (enter visit) = enter_text visit
step_text (leave visit) = leave_text visit.tree
