use Rattle.std.proofs.Common.{◌≡◌, refl}
use Rattle.cc_base.proofs.WrittenTexts.{writes_same, writes_then}
use Rattle.cc_base.proofs.Stopped.{put_stopped, stops_before}
use Rattle.cc_bash.specs.Arms.{names_of_shown}
use Rattle.cc_bash.specs.Words.{words_text}
use Rattle.cc_bash.specs.Texts.{values_begin, values_end}
use Rattle.cc_bash.specs.declared.texts.TheConstants.{VALUES_BEGIN, VALUES_END}
use Rattle.cc_bash.proofs.details.write_values.Goals as goal

begins_is : VALUES_BEGIN.now ≡ values_begin
unfolding values_begin
begins_is = refl

ends_is : VALUES_END.now ≡ values_end
unfolding values_end
ends_is = refl

pub returns-in_err-put_piece : goal.returns-in_err-put_piece
returns-in_err-put_piece g c = put_stopped _ c.from_residual.ensures.1 (stops_before _ values_end (stops_before _ (words_text (names_of_shown c.args.possible.now)) (writes_same _ _ begins_is c.in_err-put_piece.ensures.written)))

pub returns-in_err-write_shown_values : goal.returns-in_err-write_shown_values
returns-in_err-write_shown_values g c = put_stopped _ c.from_residual-in_err-write_shown_values.ensures.1 (stops_before _ values_end (writes_then _ _ (writes_same _ _ begins_is c.in_ok-put_piece.ensures.written) c.in_err-write_shown_values.ensures))

pub returns : goal.returns
returns g c = writes_then _ _ (writes_then _ _ (writes_same _ _ begins_is c.in_ok-put_piece.ensures.written) c.in_ok-write_shown_values.ensures) (writes_same _ _ ends_is c.put_piece-2.ensures.written)
