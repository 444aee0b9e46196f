use Rattle.std.proofs.Common.{◌≡◌, refl}
use Rattle.cc_base.proofs.WrittenTexts.{writes_same, writes_then}
use Rattle.cc_base.proofs.Stopped.{as_stopped, stops_before}
use Rattle.cc_bash.specs.Texts.{arms_begin}
use Rattle.cc_bash.specs.declared.texts.TheConstants.{ARMS_BEGIN}
use Rattle.cc_bash.proofs.bash.write_before_arms.Goals as goal

begin_is : ARMS_BEGIN.now ≡ arms_begin
unfolding arms_begin
begin_is = refl

pub returns-in_err-write_head : goal.returns-in_err-write_head
returns-in_err-write_head g c = as_stopped _ c.from_residual.ensures.1 (stops_before _ arms_begin (stops_before _ _ c.in_err-write_head.ensures))

pub returns-in_err-write_table : goal.returns-in_err-write_table
returns-in_err-write_table g c = as_stopped _ c.from_residual-in_err-write_table.ensures.1 (stops_before _ arms_begin (writes_then _ _ c.in_ok-write_head.ensures c.in_err-write_table.ensures))

pub returns : goal.returns
returns g c = writes_then _ _ (writes_then _ _ c.in_ok-write_head.ensures c.in_ok-write_table.ensures) (writes_same _ _ begin_is c.put_text.ensures)
