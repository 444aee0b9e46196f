use Rattle.std.proofs.Common.{◌∙◌, ap}
use Rattle.std.specs.BTreeSet.{keys}
use Rattle.complgen_c.specs.Listings.{handed, is_among}
use Rattle.complgen_c.proofs.PathSets.{found_by_order}
use Rattle.complgen_c.proofs.listed.has_path.Goals as goal

pub returns : goal.returns
returns c =
    c.contains.ensures ∙ found_by_order c.as_bytes.result.now (keys c.args.paths.now)
    ∙ ap (is_among (handed (keys c.args.paths.now))) c.as_bytes.ensures.value
