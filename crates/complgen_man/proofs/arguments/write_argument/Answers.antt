use Rattle.std.proofs.Common.{codes}
use Rattle.cc_base.proofs.Stopped.{put_stopped, stops_before}
use Rattle.cc_base.proofs.WrittenTexts.{writes_then}
use Rattle.complgen_man.specs.Page.{argument_text, described_text, label_text}
use Rattle.complgen_man.proofs.arguments.write_argument.Goals as goal

pub returns-in_err-put_request : goal.returns-in_err-put_request
unfolding argument_text
returns-in_err-put_request g c =
    put_stopped _ c.from_residual.ensures.1
    (stops_before _ (described_text c.args.argument.now) (stops_before _ (codes "\n") (stops_before _ (label_text c.args.argument.now) c.in_err-put_request.ensures)))

pub returns-in_err-write_label : goal.returns-in_err-write_label
unfolding argument_text
returns-in_err-write_label g c =
    put_stopped _ c.from_residual-in_err-write_label.ensures.1
    (stops_before _ (described_text c.args.argument.now) (stops_before _ (codes "\n") (writes_then _ _ c.in_ok-put_request.ensures c.in_err-write_label.ensures)))

pub returns-in_err-put_piece : goal.returns-in_err-put_piece
unfolding argument_text
returns-in_err-put_piece g c =
    put_stopped _ c.from_residual-in_err-put_piece.ensures.1
    (stops_before _ (described_text c.args.argument.now) (writes_then _ _ (writes_then _ _ c.in_ok-put_request.ensures c.in_ok-write_label.ensures) c.in_err-put_piece.ensures.written))

pub returns : goal.returns
unfolding argument_text
returns g c =
    writes_then _ _ (writes_then _ _ (writes_then _ _ c.in_ok-put_request.ensures c.in_ok-write_label.ensures) c.in_ok-put_piece.ensures.written) c.write_described.ensures
