use Rattle.std.proofs.Common.{◌++◌, ap, codes}
use Rattle.cc_base.proofs.Stopped.{put_stopped, stops_before}
use Rattle.cc_base.proofs.WrittenTexts.{writes_same, writes_then}
use Rattle.complgen_man.specs.Page.{command_head, request_text, usage_text}
use Rattle.complgen_man.specs.Roff.{escaped_word}
use Rattle.complgen_man.proofs.commands.write_head.Goals as goal

pub returns-in_err-put_word_between : goal.returns-in_err-put_word_between
unfolding command_head request_text
returns-in_err-put_word_between g c =
    put_stopped _ c.from_residual.ensures.1
    (stops_before _ (request_text (codes "PP\n")) (stops_before _ (usage_text c.args.command.now) (writes_same _ _ (ap (λ name. codes ".SS \"" ++ escaped_word name ++ codes "\"\n\\&") c.full_name.ensures) c.in_err-put_word_between.ensures)))

pub returns-in_err-write_usage : goal.returns-in_err-write_usage
unfolding command_head request_text
returns-in_err-write_usage g c =
    put_stopped _ c.from_residual-in_err-write_usage.ensures.1
    (stops_before _ (request_text (codes "PP\n")) (writes_then _ _ (writes_same _ _ (ap (λ name. codes ".SS \"" ++ escaped_word name ++ codes "\"\n\\&") c.full_name.ensures) c.in_ok-put_word_between.ensures) c.in_err-write_usage.ensures))

pub returns : goal.returns
unfolding command_head request_text
returns g c =
    writes_then _ _ (writes_then _ _ (writes_same _ _ (ap (λ name. codes ".SS \"" ++ escaped_word name ++ codes "\"\n\\&") c.full_name.ensures) c.in_ok-put_word_between.ensures) c.in_ok-write_usage.ensures) c.put_request.ensures
