use Rattle.std.proofs.Common.{◌≡◌, ◌++◌, List, length, map, Some, ap, ◌∙◌, sym, rules}
use Rattle.std.proofs.lemmas.List.{append-nil, take_all}
use Rattle.cc_command.specs.Tree.{Tree}
use Rattle.cc_generator.specs.Flat.{Entry, entries_of, tree_at, trees_of}
use Rattle.cc_generator.specs.Numbered.{without_numbers, with_count, with_children}
use Rattle.cc_generator.proofs.Numbering.{with_count-stored, tree_at-stored}
use Rattle.cc_generator.proofs.Trees.{trees_of-forest_of}
use Rattle.cc_generator.proofs.flat.number_children.Goals as goal

pub loop-command-init : goal.loop-command-init
loop-command-init c =
    with_count-stored c.args.nodes.now.items c.args.number c.index_mut-node.result.now c.len-first_child.result (length c.get_subcommands-children.result.now)
    (search rules) (search rules) (search rules) ∙
    sym (append-nil (with_count (entries_of c.args.nodes.now.items) c.args.number (length c.get_subcommands-children.result.now)))

pub returns : goal.returns
returns c =
    let entries : List Entry = entries_of c.args.nodes.now.items in
    let children : List Tree = c.get_subcommands-children.result.now in
    let here : tree_at entries c.args.number ≡ c.index.result.now.command.now = tree_at-stored c.args.nodes.now.items c.args.number c.index.result.now (search rules) (search rules) in
    let theirs : children ≡ trees_of (tree_at entries c.args.number).children =
    sym (trees_of-forest_of children) ∙ ap trees_of c.get_subcommands-children.ensures ∙ ap (λ t. trees_of t.children) (sym here) in
    c.loop-command.invariant ∙
    ap (λ trees. with_count entries c.args.number (length children) ++ map (without_numbers (Some c.args.number)) trees)
    (take_all c.loop-command.command-index children c.loop-command-test.false) ∙
    ap (with_children entries c.args.number) theirs
