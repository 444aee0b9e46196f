use Rattle.std.proofs.Common.{◌≡◌, ◌∙◌, ◌<◌, [], None, Some, ap, arith, codes, fold, length, refl, rules, subst, sym}
use Rattle.std.specs.Option.{option_map_or}
use Rattle.serde_json.specs.Data.{depth}
use Rattle.serde_json.specs.Find.{as_array, get}
use Rattle.complgen_tree_file.specs.JsonSeen.{items_view, view}
use Rattle.cc_command.specs.Made.{of_node, with_child}
use Rattle.complgen_tree_file.specs.CommandForm.{command_keys, commands_fit, commands_in, own_fits, own_in}
use Rattle.complgen_tree_file.specs.Faults.{has_none}
use Rattle.complgen_tree_file.proofs.ChildrenLemmas.{command_fits_with_children, command_with_children}
use Rattle.complgen_tree_file.proofs.NestingLemmas.{found_is_flatter, item_is_flatter}
use Rattle.complgen_tree_file.proofs.SlotLemmas.{held_at}
use Rattle.complgen_tree_file.proofs.commands.+commands.Goals as goal

pub read_command-children-requires : goal.read_command-children-requires
unfolding command_keys
read_command-children-requires t c = held_at c.find_values-has_only_keys.new.slots command_keys (view c.args.tree.now) 19 None
    c.find_values-has_only_keys.ensures.found refl

pub read_command-add_children-requires : goal.read_command-add_children-requires
read_command-add_children-requires t c =
    let found : get (codes "subcommands") (view c.args.tree.now) ≡ Some (view c.in-Some.value.now) = search rules in
    let smaller : depth (view c.in-Some.value.now) < depth (view c.args.tree.now) =
    found_is_flatter (codes "subcommands") _ _ found in
    search rules

pub add_children-read_command-requires : goal.add_children-read_command-requires
add_children-read_command-requires t c =
    let items = c.deref-item-items.result.now in
    let is : as_array (view c.args.value.now) ≡ Some (items_view items) = search rules in
    let inside : c.loop-index.index < length items = omega arith in
    let smaller : depth (view c.item-item.result) < depth (view c.args.value.now) =
    subst (λ v. depth (view v) < depth (view c.args.value.now)) (sym c.item-item.is)
    (item_is_flatter (view c.args.value.now) items c.loop-index.index c.item-item.result is inside) in
    search rules

pub read_command-returns-in_default : goal.read_command-returns-in_default
read_command-returns-in_default t c =
    let d = view c.args.tree.now in
    let before = has_none c.args.faults.now in
    let missing : get (codes "subcommands") d ≡ None = search rules in
    record {
      same = c.from_node-command.ensures ∙ ap of_node c.in_ok-node.ensures.same
          ∙ ap (λ o. fold with_child (of_node (own_in d)) (option_map_or commands_in o [])) (sym missing)
          ∙ sym (command_with_children d);
      faults = c.in_ok-node.ensures.faults
          ∙ ap (λ o. option_map_or (λ list. commands_fit list (own_fits d before)) o (own_fits d before)) (sym missing)
          ∙ sym (command_fits_with_children d before);
    }

pub read_command-returns-in-Ok : goal.read_command-returns-in-Ok
read_command-returns-in-Ok t c =
    let d = view c.args.tree.now in
    let before = has_none c.args.faults.now in
    let list = view c.in-Some.value.now in
    let there : get (codes "subcommands") d ≡ Some list = search rules in
    record {
      same = c.in-Ok.ensures.same
          ∙ ap (λ parent. fold with_child parent (commands_in list))
          (c.from_node-command.ensures ∙ ap of_node c.in_ok-node.ensures.same)
          ∙ ap (λ o. fold with_child (of_node (own_in d)) (option_map_or commands_in o [])) (sym there)
          ∙ sym (command_with_children d);
      faults = c.in-Ok.ensures.faults
          ∙ ap (commands_fit list) c.in_ok-node.ensures.faults
          ∙ ap (λ o. option_map_or (λ list. commands_fit list (own_fits d before)) o (own_fits d before)) (sym there)
          ∙ sym (command_fits_with_children d before);
    }
