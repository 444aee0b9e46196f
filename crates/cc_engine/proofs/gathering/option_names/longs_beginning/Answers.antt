use Rattle.std.proofs.Common.{◌∙◌, ◌++◌, ap}
use Rattle.std.specs.List.{flat_map}
use Rattle.cc_engine.specs.Options.{hidden_beginning, longs_beginning}
use Rattle.cc_engine.proofs.LongNames.{longs_in_parts}
use Rattle.cc_engine.proofs.gathering.option_names.longs_beginning.Goals as goal

pub returns : goal.returns
returns c =
    let hidden = flat_map (hidden_beginning c.args.long.now) c.args.arguments.now in
    c.in_ok-push_hidden_longs.ensures
    ∙ ap (λ r. r ++ hidden) (c.in_ok-push_longs.ensures ∙ ap (λ r. r ++ flat_map (longs_beginning c.args.long.now) c.args.arguments.now) c.new-found.ensures.items)
    ∙ longs_in_parts c.args.long.now c.args.arguments.now
