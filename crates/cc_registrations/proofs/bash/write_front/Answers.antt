use Rattle.std.proofs.Common.{◌≡◌, ℕ, List, ◌++◌, refl}
use Rattle.cc_base.proofs.WrittenTexts.{writes_same, writes_then}
use Rattle.cc_base.proofs.Stopped.{put_stopped, stops_before, writes_three}
use Rattle.cc_registrations.specs.BashRegistration.{fixed_texts, registration_front}
use Rattle.cc_registrations.specs.Names.{underscored}
use Rattle.cc_registrations.specs.declared.bash.TheConstants.{CALL_BEGINS, FUNCTION_BEGINS, FUNCTION_HEAD}
use Rattle.cc_registrations.proofs.bash.write_front.Goals as goal

parts : (variable name : List ℕ) →
    FUNCTION_BEGINS.now ++ underscored name ++ FUNCTION_HEAD.now ++ variable ++ CALL_BEGINS.now
    ≡ registration_front variable name
unfolding fixed_texts registration_front
parts variable name = refl

pub returns-in_err-put_piece : goal.returns-in_err-put_piece
returns-in_err-put_piece g c =
    put_stopped _ c.from_residual.ensures.1
    (writes_same _ _ (parts c.args.variable.now c.args.name.now)
    (stops_before _ CALL_BEGINS.now (stops_before _ c.args.variable.now (stops_before _ FUNCTION_HEAD.now (stops_before _ (underscored c.args.name.now) c.in_err-put_piece.ensures.written)))))

pub returns-in_err-put_underscored : goal.returns-in_err-put_underscored
returns-in_err-put_underscored g c =
    put_stopped _ c.from_residual-in_err-put_underscored.ensures.1
    (writes_same _ _ (parts c.args.variable.now c.args.name.now)
    (stops_before _ _ (stops_before _ _ (stops_before _ _ (writes_then _ _ c.in_ok-put_piece.ensures.written c.in_err-put_underscored.ensures)))))

pub returns : goal.returns
returns g c =
    writes_same _ _ (parts c.args.variable.now c.args.name.now)
    (writes_three _ _ _ _ (writes_then _ _ c.in_ok-put_piece.ensures.written c.in_ok-put_underscored.ensures) c.put_pieces.ensures)
