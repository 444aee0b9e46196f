use Rattle.std.proofs.Common.{◌≡◌, ◌∙◌, ◌++◌, [], ◌∷◌, ℕ, List, append_assoc, refl, rules, true}
use Rattle.cc_base.specs.Bytes.{line_feed}
use Rattle.cc_base.proofs.WrittenTexts.{writes_same, writes_then}
use Rattle.cc_command.specs.Tree.{Tree, has_nodes}
use Rattle.cc_base.proofs.Stopped.{as_stopped, stops_before}
use Rattle.cc_zsh.specs.Nested.{arm_begins, block_text, nested_begins}
use Rattle.cc_zsh.specs.Steps.{enter_text, nested_opens}
use Rattle.cc_zsh.proofs.blocks.write_enter.Goals as goal

-- the text of a node with children, which begins with its arm
opens : (arm : List ℕ) (tree : Tree) → has_nodes tree.children ≡ true →
    (arm ++ line_feed ∷ []) ++ nested_begins tree.node ≡ arm ++ nested_opens tree
unfolding nested_opens
opens arm tree inhabited = append_assoc arm (line_feed ∷ []) (nested_begins tree.node) ∙ rw inhabited refl

pub returns-in_err-write_arm_begins : goal.returns-in_err-write_arm_begins
unfolding enter_text
returns-in_err-write_arm_begins g c = as_stopped _ c.from_residual.ensures.1 (stops_before _ (nested_opens c.args.visit.now.command.now) c.in_err-write_arm_begins.ensures)

pub returns-in_err-put_text : goal.returns-in_err-put_text
unfolding enter_text
returns-in_err-put_text g c =
    let tree : Tree = c.args.visit.now.command.now in
    let inhabited : has_nodes tree.children ≡ true = search rules in
    let arm : List ℕ = arm_begins c.args.visit.now.key (block_text c.args.visit.now.above.now.node tree) in
    as_stopped _ c.from_residual-in_err-put_text.ensures.1 (writes_same _ _ (opens arm tree inhabited) (stops_before _ (nested_begins tree.node) (writes_then _ _ c.in_ok-write_arm_begins.ensures c.in_err-put_text.ensures)))

pub returns : goal.returns
unfolding enter_text
returns g c =
    let tree : Tree = c.args.visit.now.command.now in
    let inhabited : has_nodes tree.children ≡ true = search rules in
    let arm : List ℕ = arm_begins c.args.visit.now.key (block_text c.args.visit.now.above.now.node tree) in
    writes_same _ _ (opens arm tree inhabited) (writes_then _ _ (writes_then _ _ c.in_ok-write_arm_begins.ensures c.in_ok-put_text.ensures) c.write_nested_begins.ensures)
