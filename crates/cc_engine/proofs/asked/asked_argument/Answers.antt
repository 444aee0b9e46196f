use Rattle.std.proofs.Common.{map, string_bytes}
use Rattle.std.specs.Option.{option_copied}
use Rattle.cc_engine.proofs.Asking.{asks}
use Rattle.cc_engine.proofs.asked.asked_argument.Goals as goal

pub returns-clause-asked : goal.returns-clause-asked
returns-clause-asked c =
    asks _ _ _ (map string_bytes c.args.words.now) c.args.index _ (option_copied c.in_ok-asked.asked) _ c.place_at-place.ensures
    c.in_ok-asked.ensures c.in_ok-copy_of_some.ensures
