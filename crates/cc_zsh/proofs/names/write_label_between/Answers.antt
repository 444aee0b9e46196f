use Rattle.cc_base.proofs.WrittenTexts.{writes_then}
use Rattle.cc_base.proofs.Stopped.{put_stopped, stops_before}
use Rattle.cc_zsh.proofs.names.write_label_between.Goals as goal

pub returns-in_err-put_piece : goal.returns-in_err-put_piece
returns-in_err-put_piece g c = put_stopped _ c.from_residual.ensures.1 (stops_before _ _ (stops_before _ _ c.in_err-put_piece.ensures.written))

pub returns-in_err-write_label : goal.returns-in_err-write_label
returns-in_err-write_label g c = put_stopped _ c.from_residual-in_err-write_label.ensures.1 (stops_before _ _ (writes_then _ _ c.in_ok-put_piece.ensures.written c.in_err-write_label.ensures))

pub returns : goal.returns
returns g c = writes_then _ _ (writes_then _ _ c.in_ok-put_piece.ensures.written c.in_ok-write_label.ensures) c.put_piece-2.ensures.written
