use Rattle.std.proofs.Common.{◌≡◌, ◌++◌, ℕ, List, refl}
use Rattle.cc_arg.specs.declared.parts.ArgParts.{ArgParts as Arg}
use Rattle.cc_base.proofs.WrittenTexts.{writes_same, writes_then}
use Rattle.cc_command.specs.ArgumentLists.{options}
use Rattle.cc_command.specs.Iterators.{arguments_left}
use Rattle.cc_base.proofs.Stopped.{put_stopped, stops_before}
use Rattle.cc_bash.specs.Texts.{arm_begins, arm_details, arm_level, arm_words, fixed_texts}
use Rattle.cc_bash.specs.declared.texts.TheConstants.{ARM_BEGINS, ARM_DETAILS, ARM_LEVEL, ARM_WORDS}
use Rattle.cc_bash.proofs.ArmTexts.{arm_parts}
use Rattle.cc_bash.proofs.arms.write_levelled.Goals as goal

begin_is : (label : List ℕ) → ARM_BEGINS.now ++ label ++ ARM_WORDS.now ≡ arm_begins ++ label ++ arm_words
unfolding fixed_texts
begin_is label = refl

level_is : (level : List ℕ) → ARM_LEVEL.now ++ level ++ ARM_DETAILS.now ≡ arm_level ++ level ++ arm_details
unfolding fixed_texts
level_is level = refl

pub returns-in_err-put_around : goal.returns-in_err-put_around
returns-in_err-put_around g c = put_stopped _ c.from_residual.ensures.1 (writes_same _ _ (arm_parts c.args.label.now c.args.level.now c.args.command.now _ refl) (stops_before _ _ (stops_before _ _ (stops_before _ _ (stops_before _ _ (writes_same _ _ (begin_is c.args.label.now) c.in_err-put_around.ensures))))))

pub returns-in_err-write_words : goal.returns-in_err-write_words
returns-in_err-write_words g c = put_stopped _ c.from_residual-in_err-write_words.ensures.1 (writes_same _ _ (arm_parts c.args.label.now c.args.level.now c.args.command.now _ refl) (stops_before _ _ (stops_before _ _ (stops_before _ _ (writes_then _ _ (writes_same _ _ (begin_is c.args.label.now) c.in_ok-put_around.ensures) c.in_err-write_words.ensures)))))

pub returns-in_err-put_around-2 : goal.returns-in_err-put_around-2
returns-in_err-put_around-2 g c = put_stopped _ c.from_residual-in_err-put_around-2.ensures.1 (writes_same _ _ (arm_parts c.args.label.now c.args.level.now c.args.command.now _ refl) (stops_before _ _ (stops_before _ _ (writes_then _ _ (writes_then _ _ (writes_same _ _ (begin_is c.args.label.now) c.in_ok-put_around.ensures) c.in_ok-write_words.ensures) (writes_same _ _ (level_is c.args.level.now) c.in_err-put_around-2.ensures)))))

pub returns-in_err-write_details : goal.returns-in_err-write_details
returns-in_err-write_details g c =
    let written : List Arg = arguments_left c.get_opts.result in
    let same : written ≡ options c.args.command.now.node = c.get_opts.ensures in
    put_stopped _ c.from_residual-in_err-write_details.ensures.1 (writes_same _ _ (arm_parts c.args.label.now c.args.level.now c.args.command.now written same) (stops_before _ _ (writes_then _ _ (writes_then _ _ (writes_then _ _ (writes_same _ _ (begin_is c.args.label.now) c.in_ok-put_around.ensures) c.in_ok-write_words.ensures) (writes_same _ _ (level_is c.args.level.now) c.in_ok-put_around-2.ensures)) c.in_err-write_details.ensures)))

pub returns : goal.returns
unfolding fixed_texts
returns g c =
    let written : List Arg = arguments_left c.get_opts.result in
    let same : written ≡ options c.args.command.now.node = c.get_opts.ensures in
    writes_same _ _ (arm_parts c.args.label.now c.args.level.now c.args.command.now written same) (writes_then _ _ (writes_then _ _ (writes_then _ _ (writes_then _ _ c.in_ok-put_around.ensures c.in_ok-write_words.ensures) c.in_ok-put_around-2.ensures) c.in_ok-write_details.ensures) c.put_piece.ensures.written)
