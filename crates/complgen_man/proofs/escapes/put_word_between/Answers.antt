use Rattle.cc_base.proofs.Stopped.{put_stopped, stops_before}
use Rattle.cc_base.proofs.WrittenTexts.{writes_then}
use Rattle.complgen_man.specs.Roff.{escaped_word}
use Rattle.complgen_man.proofs.escapes.put_word_between.Goals as goal

pub returns-in_err-put_piece : goal.returns-in_err-put_piece
returns-in_err-put_piece g c =
    put_stopped _ c.from_residual.ensures.1
    (stops_before _ c.args.after.now (stops_before _ (escaped_word c.args.word.now) c.in_err-put_piece.ensures.written))

pub returns-in_err-put_word : goal.returns-in_err-put_word
returns-in_err-put_word g c =
    put_stopped _ c.from_residual-in_err-put_word.ensures.1
    (stops_before _ c.args.after.now (writes_then _ _ c.in_ok-put_piece.ensures.written c.in_err-put_word.ensures))

pub returns : goal.returns
returns g c =
    writes_then _ _ (writes_then _ _ c.in_ok-put_piece.ensures.written c.in_ok-put_word.ensures) c.put_piece-2.ensures.written
