use Rattle.std.proofs.Common.{◌≡◌, ℕ, List, ◌++◌, refl}
use Rattle.cc_base.proofs.WrittenTexts.{writes_same, writes_then}
use Rattle.cc_base.proofs.Stopped.{as_stopped, stops_before, writes_three}
use Rattle.cc_registrations.specs.Names.{underscored}
use Rattle.cc_registrations.specs.ZshRegistration.{fixed_texts, registration_front, registration_head}
use Rattle.cc_registrations.specs.declared.zsh.TheConstants.{CALL_BEGINS, FUNCTION_HEAD}
use Rattle.cc_registrations.proofs.zsh.write_front.Goals as goal

parts : (variable name bin : List ℕ) →
    registration_head bin ++ underscored name ++ FUNCTION_HEAD.now ++ variable ++ CALL_BEGINS.now
    ≡ registration_front variable name bin
unfolding fixed_texts registration_front
parts variable name bin = refl

pub returns-in_err-write_head : goal.returns-in_err-write_head
returns-in_err-write_head g c =
    as_stopped _ c.from_residual.ensures.1
    (writes_same _ _ (parts c.args.variable.now c.args.name.now c.args.bin.now)
    (stops_before _ _ (stops_before _ _ (stops_before _ _ (stops_before _ _ c.in_err-write_head.ensures)))))

pub returns-in_err-put_underscored : goal.returns-in_err-put_underscored
returns-in_err-put_underscored g c =
    as_stopped _ c.from_residual-in_err-put_underscored.ensures.1
    (writes_same _ _ (parts c.args.variable.now c.args.name.now c.args.bin.now)
    (stops_before _ _ (stops_before _ _ (stops_before _ _ (writes_then _ _ c.in_ok-write_head.ensures c.in_err-put_underscored.ensures)))))

pub returns : goal.returns
returns g c =
    writes_same _ _ (parts c.args.variable.now c.args.name.now c.args.bin.now)
    (writes_three _ _ _ _ (writes_then _ _ c.in_ok-write_head.ensures c.in_ok-put_underscored.ensures) c.put_texts.ensures)
