use Rattle.std.proofs.Common.{◌≡◌, refl}
use Rattle.cc_base.proofs.WrittenTexts.{writes_same, writes_then}
use Rattle.cc_base.proofs.Stopped.{put_stopped, stops_before}
use Rattle.cc_fish.specs.Script.{list_begin, listed_text}
use Rattle.cc_fish.specs.declared.texts.TheConstants.{LIST_BEGIN}
use Rattle.cc_fish.proofs.values.write_listed.Goals as goal

begin_is : LIST_BEGIN.now ≡ list_begin
unfolding list_begin
begin_is = refl

pub returns-in_err-put_piece : goal.returns-in_err-put_piece
unfolding listed_text
returns-in_err-put_piece g c = put_stopped _ c.from_residual.ensures.1 (stops_before _ _ (stops_before _ _ (writes_same _ _ begin_is c.in_err-put_piece.ensures.written)))

pub returns-in_err-write_lines : goal.returns-in_err-write_lines
unfolding listed_text
returns-in_err-write_lines g c = put_stopped _ c.from_residual-in_err-write_lines.ensures.1 (stops_before _ _ (writes_then _ _ (writes_same _ _ begin_is c.in_ok-put_piece.ensures.written) c.in_err-write_lines.ensures))

pub returns : goal.returns
unfolding list_begin listed_text
returns g c = writes_then _ _ (writes_then _ _ c.in_ok-put_piece.ensures.written c.in_ok-write_lines.ensures) c.put_piece-2.ensures.written
