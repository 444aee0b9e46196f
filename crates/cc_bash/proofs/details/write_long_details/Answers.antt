use Rattle.std.proofs.Common.{◌≡◌, ◌∷◌, flat_map, map, refl, rules}
use Rattle.cc_arg.specs.Aliases.{longs_left}
use Rattle.cc_generator.specs.ArgumentNames.{long_word}
use Rattle.cc_bash.specs.Arms.{detail_of}
use Rattle.cc_bash.specs.Script.{detail_text}
use Rattle.cc_bash.proofs.TextLoops.{goes_next}
use Rattle.cc_bash.proofs.details.write_long_details.Goals as goal

pub loop-long-preserved : goal.loop-long-preserved
loop-long-preserved g c =
    let left : longs_left c.loop-long.long-iterator ≡ c.in-Some.long.now ∷ longs_left c.next.new.self = search rules in
    goes_next (λ longs. flat_map detail_text (map (detail_of c.args.argument.now) (map long_word longs))) _ _ left refl c.loop-long.invariant c.in_ok-write_detail.ensures
