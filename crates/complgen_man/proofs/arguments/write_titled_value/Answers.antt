use Rattle.std.proofs.Common.{codes}
use Rattle.cc_base.proofs.Stopped.{put_stopped, stops_before}
use Rattle.cc_base.proofs.WrittenTexts.{writes_then}
use Rattle.complgen_man.specs.Page.{bold_text}
use Rattle.complgen_man.proofs.arguments.write_titled_value.Goals as goal

pub returns-in_err-put_request : goal.returns-in_err-put_request
returns-in_err-put_request g c =
    put_stopped _ c.from_residual.ensures.1
    (stops_before _ (codes "\n") (stops_before _ (bold_text c.args.value.now) c.in_err-put_request.ensures))

pub returns-in_err-write_bold : goal.returns-in_err-write_bold
returns-in_err-write_bold g c =
    put_stopped _ c.from_residual-in_err-write_bold.ensures.1
    (stops_before _ (codes "\n") (writes_then _ _ c.in_ok-put_request.ensures c.in_err-write_bold.ensures))

pub returns : goal.returns
returns g c =
    writes_then _ _ (writes_then _ _ c.in_ok-put_request.ensures c.in_ok-write_bold.ensures) c.put_piece.ensures.written
