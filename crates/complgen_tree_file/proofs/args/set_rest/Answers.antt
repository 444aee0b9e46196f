use Rattle.std.proofs.Common.{refl}
use Rattle.complgen_tree_file.specs.JsonSeen.{view}
use Rattle.complgen_tree_file.specs.ArgumentForm.{argument_keys}
use Rattle.complgen_tree_file.specs.ArgumentForm as form
use Rattle.complgen_tree_file.proofs.SlotLemmas.{held_from}
use Rattle.complgen_tree_file.proofs.args.set_rest.Goals as goal

pub set_names-requires : goal.set_names-requires
unfolding argument_keys
set_names-requires c = held_from 1 form.names argument_keys c.args.slots.now (view c.args.tree.now) c.requires refl

pub set_values-requires : goal.set_values-requires
unfolding argument_keys
set_values-requires c = held_from 5 form.values argument_keys c.args.slots.now (view c.args.tree.now) c.requires refl

pub set_surroundings-requires : goal.set_surroundings-requires
unfolding argument_keys
set_surroundings-requires c = held_from 17 form.surroundings argument_keys c.args.slots.now (view c.args.tree.now) c.requires refl

pub set_flags-requires : goal.set_flags-requires
unfolding argument_keys
set_flags-requires c = held_from 21 form.flags argument_keys c.args.slots.now (view c.args.tree.now) c.requires refl

pub set_aliases-requires : goal.set_aliases-requires
unfolding argument_keys
set_aliases-requires c = held_from 26 form.aliases argument_keys c.args.slots.now (view c.args.tree.now) c.requires refl
