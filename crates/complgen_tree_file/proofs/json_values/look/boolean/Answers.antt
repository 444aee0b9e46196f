use Rattle.std.proofs.Common.{◌∙◌}
use Rattle.json.specs.Value.{value_view}
use Rattle.complgen_tree_file.proofs.JsonFound.{boolean_seen}
use Rattle.complgen_tree_file.proofs.json_values.look.boolean.Goals as goal

pub returns : goal.returns
returns c = c.as_bool.ensures ∙ boolean_seen (value_view c.args.value.now)
