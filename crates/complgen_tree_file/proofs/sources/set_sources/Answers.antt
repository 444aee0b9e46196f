use Rattle.std.proofs.Common.{refl}
use Rattle.complgen_tree_file.specs.JsonSeen.{view}
use Rattle.complgen_tree_file.specs.ArgumentForm.{argument_keys, sources}
use Rattle.complgen_tree_file.proofs.SlotLemmas.{held_from}
use Rattle.complgen_tree_file.proofs.sources.set_sources.Goals as goal

pub set_source_keys-requires : goal.set_source_keys-requires
unfolding argument_keys
set_source_keys-requires c = held_from 11 sources argument_keys c.args.slots.now (view c.args.tree.now) c.requires refl
