use Rattle.std.proofs.Common.{◌≡◌, ◌∙◌, ◌++◌, ℕ, List, ap, append_assoc, refl, rules, subst, sym, true}
use Rattle.cc_base.proofs.WrittenTexts.{writes_same, writes_then}
use Rattle.cc_command.specs.Tree.{Tree, has_nodes}
use Rattle.cc_base.proofs.Stopped.{as_stopped, stops_before}
use Rattle.cc_generator.specs.Flat.{tree_at}
use Rattle.cc_zsh.specs.Nested.{arms_text, block_text, nested_begins, nested_ends, nested_text, root_text}
use Rattle.cc_zsh.proofs.blocks.write_root.Goals as goal

regroup : (b n a e : List ℕ) → ((b ++ n) ++ a) ++ e ≡ b ++ ((n ++ a) ++ e)
regroup b n a e = simp append_assoc

-- the parts of the text of a root with children, which the code reaches by its number
parts : (at root : Tree) → root ≡ at → has_nodes root.children ≡ true →
    ((block_text root.node root ++ nested_begins root.node) ++ arms_text at.node at.children) ++ nested_ends
    ≡ root_text at
unfolding root_text
parts at root is inhabited =
    let arms : List ℕ = arms_text at.node at.children in
    let P : Tree → Type 0 = λ tree. has_nodes tree.children ≡ true →
    ((block_text tree.node tree ++ nested_begins tree.node) ++ arms) ++ nested_ends ≡ root_text at in
    subst P (sym is) (λ h. regroup (block_text at.node at) (nested_begins at.node) arms nested_ends ∙ rw h refl) inhabited

pub returns-in_err-write_block : goal.returns-in_err-write_block
unfolding root_text
returns-in_err-write_block g c =
    let at : Tree = tree_at c.args.flat.now 0 in
    as_stopped _ c.from_residual.ensures.1 (stops_before _ (nested_text at.node at.children (arms_text at.node at.children)) (writes_same _ _ (ap (λ tree. block_text tree.node tree) c.command-root.ensures) c.in_err-write_block.ensures))

pub returns-in_err-write_nested_begins : goal.returns-in_err-write_nested_begins
returns-in_err-write_nested_begins g c =
    let at : Tree = tree_at c.args.flat.now 0 in
    let root : Tree = c.command-root.result.now in
    let inhabited : has_nodes root.children ≡ true = search rules in
    as_stopped _ c.from_residual-in_err-write_nested_begins.ensures.1 (writes_same _ _ (parts at root c.command-root.ensures inhabited) (stops_before _ nested_ends (stops_before _ (arms_text at.node at.children) (writes_then _ _ c.in_ok-write_block.ensures c.in_err-write_nested_begins.ensures))))

pub returns-in_err-write_arms : goal.returns-in_err-write_arms
returns-in_err-write_arms g c =
    let at : Tree = tree_at c.args.flat.now 0 in
    let root : Tree = c.command-root.result.now in
    let inhabited : has_nodes root.children ≡ true = search rules in
    as_stopped _ c.from_residual-in_err-write_arms.ensures.1 (writes_same _ _ (parts at root c.command-root.ensures inhabited) (stops_before _ nested_ends (writes_then _ _ (writes_then _ _ c.in_ok-write_block.ensures c.in_ok-write_nested_begins.ensures) c.in_err-write_arms.ensures)))

pub returns-in_err-write_nested_ends : goal.returns-in_err-write_nested_ends
returns-in_err-write_nested_ends g c =
    let at : Tree = tree_at c.args.flat.now 0 in
    let root : Tree = c.command-root.result.now in
    let inhabited : has_nodes root.children ≡ true = search rules in
    as_stopped _ c.from_residual-in_err-write_nested_ends.ensures.1 (writes_same _ _ (parts at root c.command-root.ensures inhabited) (writes_then _ _ (writes_then _ _ (writes_then _ _ c.in_ok-write_block.ensures c.in_ok-write_nested_begins.ensures) c.in_ok-write_arms.ensures) c.in_err-write_nested_ends.ensures))

pub returns : goal.returns
returns g c =
    let at : Tree = tree_at c.args.flat.now 0 in
    let root : Tree = c.command-root.result.now in
    let inhabited : has_nodes root.children ≡ true = search rules in
    writes_same _ _ (parts at root c.command-root.ensures inhabited) (writes_then _ _ (writes_then _ _ (writes_then _ _ c.in_ok-write_block.ensures c.in_ok-write_nested_begins.ensures) c.in_ok-write_arms.ensures) c.in_ok-write_nested_ends.ensures)
