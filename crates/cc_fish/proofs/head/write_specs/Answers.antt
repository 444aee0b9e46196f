use Rattle.std.proofs.Common.{◌≡◌, false, filter, flat_map, not, refl, rules}
use Rattle.cc_arg.specs.Arguments.{is_positional}
use Rattle.cc_base.proofs.Lists.{one_more}
use Rattle.cc_fish.specs.Script.{spec_text}
use Rattle.cc_fish.proofs.TextLoops.{goes_next}
use Rattle.cc_fish.proofs.head.write_specs.Goals as goal

pub loop-argument-preserved : goal.loop-argument-preserved
loop-argument-preserved g c =
    let item = c.argument-item.result in
    let named : is_positional item ≡ false = search rules in
    goes_next (λ arguments. flat_map spec_text (filter (λ argument. not (is_positional argument)) arguments)) _ (spec_text item) (one_more c.args.arguments.now c.loop-argument.argument-index item item c.loop-argument-test.true c.argument-item.is) (rw named refl) c.loop-argument.invariant c.in_ok-write_spec.ensures
