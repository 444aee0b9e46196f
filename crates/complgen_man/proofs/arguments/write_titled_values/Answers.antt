use Rattle.std.proofs.Common.{codes}
use Rattle.cc_base.proofs.Stopped.{put_stopped, stops_before}
use Rattle.cc_base.proofs.WrittenTexts.{writes_then}
use Rattle.complgen_man.specs.Page.{value_list}
use Rattle.complgen_man.proofs.arguments.write_titled_values.Goals as goal

pub returns-in_err-put_request : goal.returns-in_err-put_request
returns-in_err-put_request g c =
    put_stopped _ c.from_residual.ensures.1
    (stops_before _ (codes "\n") (stops_before _ (value_list c.args.values.now) c.in_err-put_request.ensures))

pub returns-in_err-write_values : goal.returns-in_err-write_values
returns-in_err-write_values g c =
    put_stopped _ c.from_residual-in_err-write_values.ensures.1
    (stops_before _ (codes "\n") (writes_then _ _ c.in_ok-put_request.ensures c.in_err-write_values.ensures))

pub returns : goal.returns
returns g c =
    writes_then _ _ (writes_then _ _ c.in_ok-put_request.ensures c.in_ok-write_values.ensures) c.put_piece.ensures.written
