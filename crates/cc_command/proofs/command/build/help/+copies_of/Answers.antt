use Rattle.std.proofs.Common.{◌≡◌, ◌+◌, List, ◌∙◌, [], ◌∷◌, ◌++◌, ap, sym, take, length, arith, rules, length-take}
use Rattle.std.proofs.lemmas.List.{take_more}
use Rattle.cc_command.specs.Tree.{Tree, forest_of}
use Rattle.cc_command.specs.Generated.{copies, generated_node}
use Rattle.cc_command.specs.Names.{joined_name}
use Rattle.cc_command.proofs.BuiltAgain.{built_forest-copies}
use Rattle.cc_command.proofs.Forests.{copies-push}
use Rattle.cc_command.proofs.command.build.help.+copies_of.Goals as goal

pub generated_command-requires : goal.generated_command-requires
generated_command-requires t c = record { stays = rw (c.in_ok-below.ensures.ok, c.as_str.ensures.text) (built_forest-copies [] c.in_ok-name.name 0 _) }

pub loop-position-preserved : goal.loop-position-preserved
loop-position-preserved t c =
    let siblings : List Tree = c.args.siblings.now in
    let sibling : Tree = c.index-siblings-position.result in
    let copy : Tree = c.in_ok-generated_command.field-0 in
    let pushed : c.push.new.self.items ≡ c.loop-position.made.items ++ copy ∷ [] = c.in_ok-push.ensures.items in
    let count : length (take c.loop-position.position siblings) ≡ c.loop-position.position = omega (arith, length-take c.loop-position.position siblings, c.loop-position-test.true) in
    let copied : copy ≡ record {
      node = generated_node sibling.node.name (joined_name c.args.parent.now sibling.node.name) sibling.node.about c.loop-position.position sibling.node.hide;
      children = copies (joined_name c.args.parent.now sibling.node.name) 0 sibling.children;
    } = search rules in
    let next : take (c.loop-position.position + 1) siblings ≡ take c.loop-position.position siblings ++ sibling ∷ [] =
    rw c.index-siblings-position.is (take_more siblings c.loop-position.position sibling c.loop-position-test.true) in
    ap forest_of pushed ∙
    copies-push c.args.parent.now c.loop-position.made.items (take c.loop-position.position siblings) sibling copy c.loop-position.invariant
    (rw count (ap (λ tree. forest_of (tree ∷ [])) copied)) ∙
    ap (λ trees. copies c.args.parent.now 0 (forest_of trees)) (sym next)
