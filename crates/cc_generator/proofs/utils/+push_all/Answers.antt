use Rattle.std.proofs.Common.{◌≡◌, ◌<◌, ◌∙◌, List, ap, sym, subst, rules}
use Rattle.cc_command.specs.Tree.{Forest, Tree, forest_of, forest_size}
use Rattle.cc_command.proofs.Forests.{below_is_smaller}
use Rattle.cc_generator.proofs.utils.+push_all.Goals as goal

pub push_all-requires : goal.push_all-requires
push_all-requires t c =
    let siblings : List Tree = c.args.siblings.now in
    let sibling : Tree = c.sibling-item.result in
    let below : forest_of c.get_subcommands.result.now ≡ sibling.children = c.get_subcommands.ensures in
    let smaller : forest_size (forest_of c.get_subcommands.result.now) < forest_size (forest_of siblings) =
    subst (λ (forest : Forest). forest_size forest < forest_size (forest_of siblings))
    (ap (λ (tree : Tree). tree.children) (sym c.sibling-item.is) ∙ sym below)
    (below_is_smaller siblings c.loop-sibling.sibling-index sibling c.loop-sibling-test.true) in
    search rules
