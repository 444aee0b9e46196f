use Rattle.cc_base.proofs.WrittenTexts.{writes_then}
use Rattle.cc_base.proofs.Stopped.{put_stopped, stops_before}
use Rattle.cc_zsh.proofs.escaped.put_escaped_between.Goals as goal

pub returns-in_err-put_piece : goal.returns-in_err-put_piece
returns-in_err-put_piece g c = put_stopped _ c.from_residual.ensures.1 (stops_before _ _ (stops_before _ _ c.in_err-put_piece.ensures.written))

pub returns-in_err-put_escaped : goal.returns-in_err-put_escaped
returns-in_err-put_escaped g c = put_stopped _ c.from_residual-in_err-put_escaped.ensures.1 (stops_before _ _ (writes_then _ _ c.in_ok-put_piece.ensures.written c.in_err-put_escaped.ensures))

pub returns : goal.returns
returns g c = writes_then _ _ (writes_then _ _ c.in_ok-put_piece.ensures.written c.in_ok-put_escaped.ensures) c.put_piece-2.ensures.written
