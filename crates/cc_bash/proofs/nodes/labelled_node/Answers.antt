use Rattle.std.proofs.Common.{◌≡◌, ◌∙◌, ℕ, List, ap, rules}
use Rattle.cc_command.specs.Tree.{Tree}
use Rattle.cc_bash.specs.Labels.{Labelled, child_label, labelled_node, sort_text}
use Rattle.cc_bash.proofs.nodes.labelled_node.Goals as goal

abbrev labelled : List ℕ → List ℕ → List ℕ → ℕ → Tree → Labelled
labelled parent label sort level tree = record {
  parent = parent;
  label = label;
  sort_text = sort;
  level = level;
  tree = tree;
}

labels : (parent kept label sort : List ℕ) (level : ℕ) (tree : Tree) → kept ≡ parent →
    label ≡ child_label parent tree.node.name → sort ≡ sort_text tree.node →
    labelled kept label sort level tree ≡ labelled_node parent level tree
labels parent kept label sort level tree same is sorts =
    ap (λ text. labelled text label sort level tree) same
    ∙ ap (λ text. labelled parent text sort level tree) is
    ∙ ap (λ text. labelled parent (child_label parent tree.node.name) text level tree) sorts

pub returns : goal.returns
returns c =
    let tree : Tree = c.args.node.command.now in
    let same : c.parent.inside.text.value ≡ c.args.parent = search rules in
    let label : c.in_ok-new.field-0 ≡ child_label c.args.parent tree.node.name = search rules in
    let sorts : c.from-2.result ≡ sort_text tree.node = search rules in
    labels c.args.parent c.parent.inside.text.value c.in_ok-new.field-0 c.from-2.result c.args.node.level tree same label sorts
