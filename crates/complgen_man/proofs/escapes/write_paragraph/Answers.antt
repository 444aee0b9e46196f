use Rattle.std.proofs.Common.{codes}
use Rattle.cc_base.proofs.Stopped.{put_stopped, stops_before}
use Rattle.cc_base.proofs.WrittenTexts.{writes_then}
use Rattle.complgen_man.specs.Page.{paragraph_text}
use Rattle.complgen_man.specs.Roff.{escaped_prose}
use Rattle.complgen_man.proofs.escapes.write_paragraph.Goals as goal

pub returns-in_err-put_piece : goal.returns-in_err-put_piece
unfolding paragraph_text
returns-in_err-put_piece g c =
    put_stopped _ c.from_residual.ensures.1
    (stops_before _ (codes "\n") (stops_before _ (escaped_prose c.args.text.now) c.in_err-put_piece.ensures.written))

pub returns-in_err-put_prose : goal.returns-in_err-put_prose
unfolding paragraph_text
returns-in_err-put_prose g c =
    put_stopped _ c.from_residual-in_err-put_prose.ensures.1
    (stops_before _ (codes "\n") (writes_then _ _ c.in_ok-put_piece.ensures.written c.in_err-put_prose.ensures))

pub returns : goal.returns
unfolding paragraph_text
returns g c =
    writes_then _ _ (writes_then _ _ c.in_ok-put_piece.ensures.written c.in_ok-put_prose.ensures) c.put_piece-2.ensures.written
