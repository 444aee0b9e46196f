use Rattle.std.proofs.Common.{refl}
use Rattle.complgen_tree_file.specs.JsonSeen.{view}
use Rattle.complgen_tree_file.specs.CommandForm.{command_keys}
use Rattle.complgen_tree_file.proofs.SlotLemmas.{held_at}
use Rattle.complgen_tree_file.proofs.commands.own.Goals as goal

pub needed_text-requires-clause-found : goal.needed_text-requires-clause-found
unfolding command_keys
needed_text-requires-clause-found c = held_at c.args.slots.now command_keys (view c.args.tree.now) 0 c.index-slots-0.result c.requires.found refl
