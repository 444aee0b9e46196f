use Rattle.std.proofs.Common.{◌∙◌}
use Rattle.json.specs.Value.{value_view}
use Rattle.complgen_tree_file.proofs.JsonFound.{text_seen}
use Rattle.complgen_tree_file.proofs.json_values.look.text.Goals as goal

pub returns : goal.returns
returns c = c.as_str.ensures ∙ text_seen (value_view c.args.value.now)
