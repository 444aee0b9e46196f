use Rattle.std.proofs.Common.{◌≡◌, ◌∷◌, flat_map, refl, rules}
use Rattle.cc_command.specs.Iterators.{arguments_left}
use Rattle.cc_fish.specs.Script.{argument_text}
use Rattle.cc_base.proofs.TextLoops.{goes_next}
use Rattle.cc_fish.proofs.records.write_arguments.Goals as goal

pub loop-argument-preserved : goal.loop-argument-preserved
loop-argument-preserved g c =
    let left : arguments_left c.loop-argument.argument-iterator ≡ c.in-Some.argument.now ∷ arguments_left c.next.new.self = search rules in
    goes_next (flat_map (argument_text c.args.front.now c.args.takes)) _ _ left refl c.loop-argument.invariant c.in_ok-write_argument.ensures
