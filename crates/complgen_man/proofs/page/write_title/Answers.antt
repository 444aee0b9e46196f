use Rattle.std.proofs.Common.{codes}
use Rattle.std.specs.Option.{option_copied}
use Rattle.cc_base.proofs.Stopped.{put_stopped, stops_before}
use Rattle.cc_base.proofs.WrittenTexts.{writes_then}
use Rattle.complgen_man.specs.Page.{request_text, source_text, title_text}
use Rattle.complgen_man.proofs.page.write_title.Goals as goal

pub returns-in_err-put_word_between : goal.returns-in_err-put_word_between
unfolding request_text title_text
returns-in_err-put_word_between g c =
    put_stopped _ c.from_residual.ensures.1
    (stops_before _ (codes "\" \"User Commands\"\n.nh\n") (stops_before _ (source_text c.args.name.now (option_copied c.args.version)) c.in_err-put_word_between.ensures))

pub returns-in_err-write_source : goal.returns-in_err-write_source
unfolding request_text title_text
returns-in_err-write_source g c =
    put_stopped _ c.from_residual-in_err-write_source.ensures.1
    (stops_before _ (codes "\" \"User Commands\"\n.nh\n") (writes_then _ _ c.in_ok-put_word_between.ensures c.in_err-write_source.ensures))

pub returns : goal.returns
unfolding request_text title_text
returns g c =
    writes_then _ _ (writes_then _ _ c.in_ok-put_word_between.ensures c.in_ok-write_source.ensures) c.put_piece.ensures.written
