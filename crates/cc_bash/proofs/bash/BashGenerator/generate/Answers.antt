use Rattle.std.proofs.Common.{◌≡◌, [], ◌∷◌, map, Some, None, sym, ◌∙◌, refl, rules}
use Rattle.std.specs.Prelude.{string_bytes}
use Rattle.cc_command.specs.Tree.{Tree}
use Rattle.cc_bash.specs.Labels.{first_again, root_label}
use Rattle.cc_bash.proofs.WholeScript.{clash_is, generates_clash, generates_script, nodes_are}
use Rattle.cc_bash.proofs.bash.BashGenerator.generate.Goals as goal

pub returns-in-Some : goal.returns-in-Some
returns-in-Some g c =
    let tree : Tree = c.args.command.now in
    let nodes = c.in_ok-nodes.nodes.items in
    let root : string_bytes c.in_ok-root.root ≡ root_label tree = c.in_ok-root.ensures in
    let are = nodes_are tree tree c.as_str.result.now nodes refl (c.as_str.ensures.value ∙ root) c.in_ok-nodes.ensures in
    let found : Some c.in-Some.label ≡ first_again [] (c.as_str-2.result.now ∷ map (λ n. n.label) nodes) = search rules in
    generates_clash tree c.in-Some.label c.args.sink.now
    (sym (found ∙ clash_is tree c.as_str-2.result.now nodes (c.as_str-2.ensures.value ∙ root) are))

pub returns : goal.returns
returns g c =
    let tree : Tree = c.args.command.now in
    let nodes = c.in_ok-nodes.nodes.items in
    let root : string_bytes c.in_ok-root.root ≡ root_label tree = c.in_ok-root.ensures in
    let are = nodes_are tree tree c.as_str.result.now nodes refl (c.as_str.ensures.value ∙ root) c.in_ok-nodes.ensures in
    let found : None ≡ first_again [] (c.as_str-2.result.now ∷ map (λ n. n.label) nodes) = search rules in
    generates_script tree c.write_script.result c.args.sink.now c.write_script.new.sink c.as_str-3.result.now nodes (c.as_str-3.ensures.value ∙ root) are
    (sym (found ∙ clash_is tree c.as_str-2.result.now nodes (c.as_str-2.ensures.value ∙ root) are))
    c.write_script.ensures
