use Rattle.std.proofs.Common.{codes}
use Rattle.std.specs.Option.{option_copied}
use Rattle.cc_base.proofs.Stopped.{put_stopped, stops_before}
use Rattle.cc_base.proofs.WrittenTexts.{writes_then}
use Rattle.complgen_man.specs.Page.{about_text, name_section}
use Rattle.complgen_man.specs.Roff.{escaped_word}
use Rattle.complgen_man.proofs.page.write_name.Goals as goal

pub returns-in_err-put_request : goal.returns-in_err-put_request
unfolding name_section
returns-in_err-put_request g c =
    put_stopped _ c.from_residual.ensures.1
    (stops_before _ (codes "\n") (stops_before _ (about_text (option_copied c.args.about)) (stops_before _ (escaped_word c.args.name.now) c.in_err-put_request.ensures)))

pub returns-in_err-put_word : goal.returns-in_err-put_word
unfolding name_section
returns-in_err-put_word g c =
    put_stopped _ c.from_residual-in_err-put_word.ensures.1
    (stops_before _ (codes "\n") (stops_before _ (about_text (option_copied c.args.about)) (writes_then _ _ c.in_ok-put_request.ensures c.in_err-put_word.ensures)))

pub returns-in_err-write_about : goal.returns-in_err-write_about
unfolding name_section
returns-in_err-write_about g c =
    put_stopped _ c.from_residual-in_err-write_about.ensures.1
    (stops_before _ (codes "\n") (writes_then _ _ (writes_then _ _ c.in_ok-put_request.ensures c.in_ok-put_word.ensures) c.in_err-write_about.ensures))

pub returns : goal.returns
unfolding name_section
returns g c =
    writes_then _ _ (writes_then _ _ (writes_then _ _ c.in_ok-put_request.ensures c.in_ok-put_word.ensures) c.in_ok-write_about.ensures) c.put_piece.ensures.written
