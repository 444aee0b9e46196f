use Rattle.std.proofs.Common.{ap, replicate}
use Rattle.cc_base.proofs.WrittenTexts.{writes_same, writes_then}
use Rattle.cc_base.proofs.Stopped.{put_stopped, stops_before}
use Rattle.cc_replies.specs.BashList.{space}
use Rattle.cc_replies.proofs.bash_list.BashList.put_padded.Goals as goal

pub returns-in_err-put_closed : goal.returns-in_err-put_closed
returns-in_err-put_closed g c =
    put_stopped _ c.from_residual.ensures.1 (stops_before _ _ c.in_err-put_closed.ensures)

pub returns : goal.returns
returns g c =
    writes_then _ _ c.in_ok-put_closed.ensures
    (writes_same _ _ (ap (λ count. replicate count space) c.left_beside.ensures) c.put_spaces.ensures)
