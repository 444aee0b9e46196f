use Rattle.std.proofs.Common.{[], ◌∷◌}
use Rattle.cc_base.specs.Bytes.{line_feed}
use Rattle.cc_base.proofs.WrittenTexts.{writes_then}
use Rattle.cc_base.proofs.Stopped.{put_stopped, stops_before}
use Rattle.cc_fish.specs.Script.{argument_text, names_text, values_text}
use Rattle.cc_fish.proofs.records.write_argument.Goals as goal

pub returns-in_err-put_piece : goal.returns-in_err-put_piece
unfolding argument_text
returns-in_err-put_piece g c = put_stopped _ c.from_residual.ensures.1 (stops_before _ (line_feed ∷ []) (stops_before _ (values_text c.args.takes c.args.argument.now) (stops_before _ (names_text c.args.argument.now) c.in_err-put_piece.ensures.written)))

pub returns-in_err-write_names : goal.returns-in_err-write_names
unfolding argument_text
returns-in_err-write_names g c = put_stopped _ c.from_residual-in_err-write_names.ensures.1 (stops_before _ (line_feed ∷ []) (stops_before _ (values_text c.args.takes c.args.argument.now) (writes_then _ _ c.in_ok-put_piece.ensures.written c.in_err-write_names.ensures)))

pub returns-in_err-write_values : goal.returns-in_err-write_values
unfolding argument_text
returns-in_err-write_values g c = put_stopped _ c.from_residual-in_err-write_values.ensures.1 (stops_before _ (line_feed ∷ []) (writes_then _ _ (writes_then _ _ c.in_ok-put_piece.ensures.written c.in_ok-write_names.ensures) c.in_err-write_values.ensures))

pub returns : goal.returns
unfolding argument_text
returns g c = writes_then _ _ (writes_then _ _ (writes_then _ _ c.in_ok-put_piece.ensures.written c.in_ok-write_names.ensures) c.in_ok-write_values.ensures) c.put_piece-2.ensures.written
