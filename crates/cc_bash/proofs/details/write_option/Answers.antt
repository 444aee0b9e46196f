use Rattle.cc_base.proofs.WrittenTexts.{writes_same, writes_then}
use Rattle.cc_bash.proofs.ArmTexts.{option_parts}
use Rattle.cc_bash.proofs.details.write_option.Goals as goal

pub returns : goal.returns
returns g c =
    writes_same _ _ (option_parts c.args.argument.now)
    (writes_then _ _ c.in_ok-write_long_details.ensures c.write_short_details.ensures)
