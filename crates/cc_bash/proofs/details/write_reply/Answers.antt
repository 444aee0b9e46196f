use Rattle.std.proofs.Common.{◌≡◌, refl}
use Rattle.cc_base.proofs.WrittenTexts.{writes_same, writes_then}
use Rattle.cc_base.proofs.Stopped.{put_stopped, stops_before}
use Rattle.cc_bash.specs.Arms.{offered_by}
use Rattle.cc_bash.specs.Script.{offered_text, reply_text}
use Rattle.cc_bash.specs.Texts.{reply_begins, reply_ends}
use Rattle.cc_bash.specs.declared.texts.TheConstants.{REPLY_BEGINS, REPLY_ENDS}
use Rattle.cc_bash.proofs.details.write_reply.Goals as goal

begins_is : REPLY_BEGINS.now ≡ reply_begins
unfolding reply_begins
begins_is = refl

ends_is : REPLY_ENDS.now ≡ reply_ends
unfolding reply_ends
ends_is = refl

pub returns-in_err-put_piece : goal.returns-in_err-put_piece
unfolding reply_text
returns-in_err-put_piece g c = put_stopped _ c.from_residual.ensures.1 (stops_before _ reply_ends (stops_before _ (offered_text (offered_by c.args.argument.now)) (writes_same _ _ begins_is c.in_err-put_piece.ensures.written)))

pub returns-in_err-write_offered : goal.returns-in_err-write_offered
unfolding reply_text
returns-in_err-write_offered g c = put_stopped _ c.from_residual-in_err-write_offered.ensures.1 (stops_before _ reply_ends (writes_then _ _ (writes_same _ _ begins_is c.in_ok-put_piece.ensures.written) c.in_err-write_offered.ensures))

pub returns : goal.returns
unfolding reply_text
returns g c = writes_then _ _ (writes_then _ _ (writes_same _ _ begins_is c.in_ok-put_piece.ensures.written) c.in_ok-write_offered.ensures) (writes_same _ _ ends_is c.put_piece-2.ensures.written)
