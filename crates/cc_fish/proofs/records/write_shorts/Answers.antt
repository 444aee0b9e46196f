use Rattle.std.proofs.Common.{◌≡◌, ◌∷◌, flat_map, refl, rules}
use Rattle.cc_arg.specs.Aliases.{shorts_left}
use Rattle.cc_fish.specs.Script.{short_text}
use Rattle.cc_base.proofs.TextLoops.{goes_next}
use Rattle.cc_fish.proofs.records.write_shorts.Goals as goal

pub loop-short-preserved : goal.loop-short-preserved
loop-short-preserved g c =
    let left : shorts_left c.loop-short.short-iterator ≡ c.in-Some.short ∷ shorts_left c.next.new.self = search rules in
    goes_next (flat_map short_text) _ _ left refl c.loop-short.invariant c.in_ok-write_short.ensures
