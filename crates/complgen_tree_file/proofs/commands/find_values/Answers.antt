use Rattle.std.proofs.Common.{None, ap}
use Rattle.std.specs.Prelude.{replicate}
use Rattle.complgen_tree_file.specs.JsonSlots.{all_held}
use Rattle.complgen_tree_file.proofs.commands.find_values.Goals as goal

pub find_keys-requires-clause-empty : goal.find_keys-requires-clause-empty
find_keys-requires-clause-empty c = (replicate 10 None, ap all_held c.requires)
