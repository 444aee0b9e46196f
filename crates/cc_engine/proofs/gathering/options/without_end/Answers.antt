use Rattle.cc_engine.proofs.WordKinds.{end_begins}
use Rattle.cc_engine.proofs.gathering.options.without_end.Goals as goal

pub range-requires-clause-end_boundary : goal.range-requires-clause-end_boundary
range-requires-clause-end_boundary c = end_begins c.args.text.now c.args.end.now c.requires c.utf8.end
