use Rattle.std.proofs.Common.{ℕ, List, []}
use Rattle.std.specs.Prelude.{codes, if◌then◌else◌}
use Rattle.cc_arg.specs.Arguments.{takes_values}
use Rattle.cc_arg.specs.ShownNames.{shown_longs, shown_shorts}
use Rattle.cc_arg.specs.declared.parts.ArgParts.{ArgParts as Arg}
use Rattle.cc_base.proofs.WrittenTexts.{writes_same, writes_then}
use Rattle.cc_base.proofs.Stopped.{put_stopped, stops_before}
use Rattle.cc_fish.specs.Script.{first_long, first_short, spec_text}
use Rattle.cc_fish.proofs.head.write_spec.Goals as goal

-- `=`, if the argument takes values
abbrev equals_text : Arg → List ℕ
equals_text argument = if takes_values argument then codes "=" else []

pub returns-in_err-put_piece : goal.returns-in_err-put_piece
unfolding spec_text
returns-in_err-put_piece g c = put_stopped _ c.from_residual.ensures.1 (stops_before _ (equals_text c.args.argument.now) (stops_before _ (first_long (shown_longs c.args.argument.now)) (stops_before _ (first_short (shown_shorts c.args.argument.now) (shown_longs c.args.argument.now)) c.in_err-put_piece.ensures.written)))

pub returns-in_err-write_first_short : goal.returns-in_err-write_first_short
unfolding spec_text
returns-in_err-write_first_short g c = put_stopped _ c.from_residual-in_err-write_first_short.ensures.1 (stops_before _ (equals_text c.args.argument.now) (stops_before _ (first_long (shown_longs c.args.argument.now)) (writes_then _ _ c.in_ok-put_piece.ensures.written c.in_err-write_first_short.ensures)))

pub returns-in_err-write_first_long : goal.returns-in_err-write_first_long
unfolding spec_text
returns-in_err-write_first_long g c = put_stopped _ c.from_residual-in_err-write_first_long.ensures.1 (stops_before _ (equals_text c.args.argument.now) (writes_then _ _ (writes_then _ _ c.in_ok-put_piece.ensures.written c.in_ok-write_first_short.ensures) c.in_err-write_first_long.ensures))

pub returns : goal.returns
unfolding spec_text
returns g c = writes_then _ _ (writes_then _ _ (writes_then _ _ c.in_ok-put_piece.ensures.written c.in_ok-write_first_short.ensures) c.in_ok-write_first_long.ensures) (writes_same _ _ c.equals.ensures c.put_piece-2.ensures.written)
