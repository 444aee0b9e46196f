use Rattle.std.proofs.Common.{◌≡◌, ◌++◌, ℕ, List, refl}
use Rattle.cc_base.proofs.WrittenTexts.{writes_same, writes_then}
use Rattle.cc_base.proofs.Stopped.{put_stopped, stops_before}
use Rattle.cc_bash.specs.Script.{detail_text}
use Rattle.cc_bash.specs.Texts.{detail_begins, detail_word_ends, fixed_texts}
use Rattle.cc_bash.specs.declared.texts.TheConstants.{DETAIL_BEGINS, DETAIL_WORD_ENDS}
use Rattle.cc_bash.proofs.details.write_detail.Goals as goal

begin_is : (dashes name : List ℕ) → DETAIL_BEGINS.now ++ dashes ++ name ++ DETAIL_WORD_ENDS.now
    ≡ detail_begins ++ (dashes ++ name) ++ detail_word_ends
unfolding fixed_texts
begin_is dashes name = refl

pub returns-in_err-put_pieces : goal.returns-in_err-put_pieces
unfolding detail_text
returns-in_err-put_pieces g c = put_stopped _ c.from_residual.ensures.1 (stops_before _ _ (stops_before _ _ (writes_same _ _ (begin_is c.args.dashes.now c.args.name.now) c.in_err-put_pieces.ensures)))

pub returns-in_err-write_moded : goal.returns-in_err-write_moded
unfolding detail_text
returns-in_err-write_moded g c = put_stopped _ c.from_residual-in_err-write_moded.ensures.1 (stops_before _ _ (writes_then _ _ (writes_same _ _ (begin_is c.args.dashes.now c.args.name.now) c.in_ok-put_pieces.ensures) c.in_err-write_moded.ensures))

pub returns : goal.returns
unfolding detail_text fixed_texts
returns g c = writes_then _ _ (writes_then _ _ c.in_ok-put_pieces.ensures c.in_ok-write_moded.ensures) c.put_piece.ensures.written
