use Rattle.std.proofs.Common.{◌≡◌, ◌++◌, ℕ, List, refl}
use Rattle.cc_base.proofs.WrittenTexts.{writes_same, writes_then}
use Rattle.cc_base.proofs.Stopped.{put_stopped, stops_before}
use Rattle.cc_zsh.specs.Functions.{commands_begin, function_begins, unless_defined}
use Rattle.cc_zsh.specs.Nested.{function_label}
use Rattle.cc_zsh.specs.declared.texts.TheConstants.{COMMANDS_BEGIN, FUNCTION_BEGINS, UNLESS_DEFINED}
use Rattle.cc_zsh.proofs.functions.write_function_begins.Goals as goal

begins_is : (label : List ℕ) → UNLESS_DEFINED.now ++ label ++ FUNCTION_BEGINS.now ≡ unless_defined ++ label ++ function_begins
unfolding unless_defined function_begins
begins_is label = refl

commands_is : COMMANDS_BEGIN.now ≡ commands_begin
unfolding commands_begin
commands_is = refl

pub returns-in_err-write_label_between : goal.returns-in_err-write_label_between
returns-in_err-write_label_between g c =
    let label = function_label c.args.name.now in
    put_stopped _ c.from_residual.ensures.1 (stops_before _ commands_begin (stops_before _ label (writes_same _ _ (begins_is label) c.in_err-write_label_between.ensures)))

pub returns-in_err-write_label : goal.returns-in_err-write_label
returns-in_err-write_label g c =
    let label = function_label c.args.name.now in
    put_stopped _ c.from_residual-in_err-write_label.ensures.1 (stops_before _ commands_begin (writes_then _ _ (writes_same _ _ (begins_is label) c.in_ok-write_label_between.ensures) c.in_err-write_label.ensures))

pub returns : goal.returns
returns g c =
    let label = function_label c.args.name.now in
    writes_then _ _ (writes_then _ _ (writes_same _ _ (begins_is label) c.in_ok-write_label_between.ensures) c.in_ok-write_label.ensures) (writes_same _ _ commands_is c.put_piece.ensures.written)
