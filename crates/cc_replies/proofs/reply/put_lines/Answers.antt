use Rattle.std.proofs.Common.{flat_map, refl}
use Rattle.cc_base.proofs.WrittenTexts.{writes_same}
use Rattle.cc_base.proofs.Stopped.{put_stopped, stops_at}
use Rattle.cc_replies.specs.Reply.{candidate_line}
use Rattle.cc_replies.proofs.reply.put_lines.Goals as goal

pub returns-in_err-put_shown_line : goal.returns-in_err-put_shown_line
returns-in_err-put_shown_line g c =
    let item = c.candidate-item.result in
    put_stopped _ c.from_residual.ensures.1
    (stops_at (flat_map candidate_line) c.args.candidates.now c.loop-candidate.candidate-index item (candidate_line item)
    c.loop-candidate-test.true c.candidate-item.is refl c.loop-candidate.invariant
    (writes_same _ _ (cc (c.get_value.ensures, c.get_help.ensures, c.help_line.ensures)) c.in_err-put_shown_line.ensures))
