use Rattle.cc_base.proofs.WrittenTexts.{writes_then}
use Rattle.cc_base.proofs.Stopped.{put_stopped, stops_before}
use Rattle.cc_replies.proofs.bash_list.BashList.put_described.Goals as goal

pub returns-in_err-put_padded : goal.returns-in_err-put_padded
returns-in_err-put_padded g c =
    put_stopped _ c.from_residual.ensures.1
    (stops_before _ _ (stops_before _ _ (stops_before _ _ c.in_err-put_padded.ensures)))

pub returns-in_err-put_piece : goal.returns-in_err-put_piece
returns-in_err-put_piece g c =
    put_stopped _ c.from_residual-in_err-put_piece.ensures.1
    (stops_before _ _ (stops_before _ _ (writes_then _ _ c.in_ok-put_padded.ensures c.in_err-put_piece.ensures.written)))

pub returns-in_err-put_cut : goal.returns-in_err-put_cut
returns-in_err-put_cut g c =
    put_stopped _ c.from_residual-in_err-put_cut.ensures.1
    (stops_before _ _ (writes_then _ _ (writes_then _ _ c.in_ok-put_padded.ensures c.in_ok-put_piece.ensures.written) c.in_err-put_cut.ensures))

pub returns : goal.returns
returns g c =
    writes_then _ _ (writes_then _ _ (writes_then _ _ c.in_ok-put_padded.ensures c.in_ok-put_piece.ensures.written) c.in_ok-put_cut.ensures)
    c.put_piece-2.ensures.written
