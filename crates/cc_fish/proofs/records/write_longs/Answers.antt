use Rattle.std.proofs.Common.{◌≡◌, ◌∷◌, flat_map, refl, rules}
use Rattle.cc_arg.specs.Aliases.{longs_left}
use Rattle.cc_fish.specs.Script.{long_text}
use Rattle.cc_base.proofs.TextLoops.{goes_next}
use Rattle.cc_fish.proofs.records.write_longs.Goals as goal

pub loop-long-preserved : goal.loop-long-preserved
loop-long-preserved g c =
    let left : longs_left c.loop-long.long-iterator ≡ c.in-Some.long.now ∷ longs_left c.next.new.self = search rules in
    goes_next (flat_map long_text) _ _ left refl c.loop-long.invariant c.in_ok-write_long.ensures
