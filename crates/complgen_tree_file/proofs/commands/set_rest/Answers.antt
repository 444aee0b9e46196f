use Rattle.std.proofs.Common.{None, refl}
use Rattle.complgen_tree_file.specs.JsonSeen.{view}
use Rattle.complgen_tree_file.specs.CommandForm.{command_keys}
use Rattle.complgen_tree_file.specs.CommandForm as form
use Rattle.complgen_tree_file.proofs.SlotLemmas.{held_at, held_from}
use Rattle.complgen_tree_file.proofs.commands.set_rest.Goals as goal

pub set_texts-requires : goal.set_texts-requires
unfolding command_keys
set_texts-requires c = held_from 1 form.texts command_keys c.args.slots.now (view c.args.tree.now) c.requires refl

pub set_names-requires : goal.set_names-requires
unfolding command_keys
set_names-requires c = held_from 5 form.names command_keys c.args.slots.now (view c.args.tree.now) c.requires refl

pub set_flags-requires : goal.set_flags-requires
unfolding command_keys
set_flags-requires c = held_from 10 form.flags command_keys c.args.slots.now (view c.args.tree.now) c.requires refl

pub set_rules-requires : goal.set_rules-requires
unfolding command_keys
set_rules-requires c = held_from 14 form.rules command_keys c.args.slots.now (view c.args.tree.now) c.requires refl

pub add_args-requires : goal.add_args-requires
unfolding command_keys
add_args-requires c = held_at c.args.slots.now command_keys (view c.args.tree.now) 18 None c.requires refl
