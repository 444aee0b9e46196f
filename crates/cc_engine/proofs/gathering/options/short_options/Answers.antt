use Rattle.cc_engine.proofs.WordKinds.{ends_past_dash}
use Rattle.cc_engine.proofs.gathering.options.short_options.Goals as goal

pub character_values-requires : goal.character_values-requires
character_values-requires c = ends_past_dash c.args.word.now c.args.rest.now c.in-Some.found.after c.requires c.in-Some.ensures.after
