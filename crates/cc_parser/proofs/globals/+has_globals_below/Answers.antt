use Rattle.std.proofs.Common.{◌≡◌, ◌<◌, ◌∙◌, List, ap, sym, subst, rules}
use Rattle.cc_command.specs.Tree.{Forest, Tree, forest_of, forest_size}
use Rattle.cc_command.proofs.Forests.{below_is_smaller}
use Rattle.cc_parser.proofs.globals.+has_globals_below.Goals as goal

pub has_globals_below-below-requires : goal.has_globals_below-below-requires
has_globals_below-below-requires t c =
    let siblings : List Tree = c.args.children.now in
    let child : Tree = c.child-item.result in
    let below : forest_of c.get_subcommands.result.now ≡ child.children = c.get_subcommands.ensures in
    let smaller : forest_size (forest_of c.get_subcommands.result.now) < forest_size (forest_of siblings) =
    subst (λ (forest : Forest). forest_size forest < forest_size (forest_of siblings))
    (ap (λ (tree : Tree). tree.children) (sym c.child-item.is) ∙ sym below)
    (below_is_smaller siblings c.loop-child.child-index child c.loop-child-test.true) in
    search rules
