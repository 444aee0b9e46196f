use Rattle.std.proofs.Common.{◌≡◌, [], ◌∷◌, map, ◌∙◌, refl, rules}
use Rattle.std.specs.Prelude.{string_bytes}
use Rattle.std.proofs.lemmas.Result.{IfOk-weaker}
use Rattle.cc_command.specs.Tree.{Tree}
use Rattle.cc_bash.specs.Labels.{first_again, root_label, shared_label}
use Rattle.cc_bash.proofs.WholeScript.{clash_is, nodes_are}
use Rattle.cc_bash.proofs.bash.clashing_label.Goals as goal

pub returns : goal.returns
returns c =
    let tree : Tree = c.args.command.now in
    let nodes = c.deref.result.now in
    let root : string_bytes c.in_ok-root.root ≡ root_label tree = c.in_ok-root.ensures in
    let are = nodes_are tree tree c.as_str.result.now nodes refl (c.as_str.ensures.value ∙ root) (search rules) in
    let labels = c.as_str-2.result.now ∷ map (λ n. n.label) nodes in
    IfOk-weaker c.shared_label.result (λ shared. shared ≡ first_again [] labels) (λ shared. shared ≡ shared_label tree)
    (λ shared found. found ∙ clash_is tree c.as_str-2.result.now nodes (c.as_str-2.ensures.value ∙ root) are)
    c.shared_label.ensures
