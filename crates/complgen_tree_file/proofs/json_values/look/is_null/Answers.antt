use Rattle.std.proofs.Common.{◌∙◌}
use Rattle.json.specs.Value.{value_view}
use Rattle.complgen_tree_file.proofs.JsonFound.{null_seen}
use Rattle.complgen_tree_file.proofs.json_values.look.is_null.Goals as goal

pub returns : goal.returns
returns c = c.is_null.ensures ∙ null_seen (value_view c.args.value.now)
