use Rattle.complgen_live.proofs.Stems.{stem_is}
use Rattle.complgen_live.proofs.files.tree_stem.Goals as goal

pub returns : goal.returns
returns c = stem_is c.args.name.now c.strip_suffix.result c.strip_suffix.ensures.cases
