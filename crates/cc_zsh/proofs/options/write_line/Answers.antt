use Rattle.cc_arg.specs.declared.names.ShownName.{ShownName}
use Rattle.cc_arg.specs.declared.parts.ArgParts.{ArgParts as Arg}
use Rattle.cc_base.proofs.WrittenTexts.{writes_same, writes_then}
use Rattle.cc_command.specs.declared.node.Node.{Node}
use Rattle.cc_base.proofs.Stopped.{put_stopped, stops_before}
use Rattle.cc_zsh.specs.Conflicts.{conflicts_of, conflicts_text}
use Rattle.cc_zsh.specs.Options.{argument_line, help_text, line_end, name_word, repeated_text, value_sign}
use Rattle.cc_zsh.specs.Values.{values_text}
use Rattle.cc_zsh.proofs.options.write_line.Goals as goal

pub returns-in_err-put_piece : goal.returns-in_err-put_piece
unfolding argument_line
returns-in_err-put_piece g c =
    let above : Node = c.args.above.now.node in
    let node : Node = c.args.command.now.node in
    let argument : Arg = c.args.argument.now in
    let name : ShownName = c.args.name.now in
    put_stopped _ c.from_residual.ensures.1 (stops_before _ line_end (stops_before _ (values_text argument) (stops_before _ (help_text argument) (stops_before _ (value_sign argument name) (stops_before _ (name_word name) (stops_before _ (repeated_text argument) (stops_before _ (conflicts_text (conflicts_of above node argument)) c.in_err-put_piece.ensures.written)))))))

pub returns-in_err-write_conflicts : goal.returns-in_err-write_conflicts
unfolding argument_line
returns-in_err-write_conflicts g c =
    let above : Node = c.args.above.now.node in
    let node : Node = c.args.command.now.node in
    let argument : Arg = c.args.argument.now in
    let name : ShownName = c.args.name.now in
    put_stopped _ c.from_residual-in_err-write_conflicts.ensures.1 (stops_before _ line_end (stops_before _ (values_text argument) (stops_before _ (help_text argument) (stops_before _ (value_sign argument name) (stops_before _ (name_word name) (stops_before _ (repeated_text argument) (writes_then _ _ c.in_ok-put_piece.ensures.written c.in_err-write_conflicts.ensures)))))))

pub returns-in_err-put_piece-2 : goal.returns-in_err-put_piece-2
unfolding argument_line
returns-in_err-put_piece-2 g c =
    let above : Node = c.args.above.now.node in
    let node : Node = c.args.command.now.node in
    let argument : Arg = c.args.argument.now in
    let name : ShownName = c.args.name.now in
    put_stopped _ c.from_residual-in_err-put_piece-2.ensures.1 (stops_before _ line_end (stops_before _ (values_text argument) (stops_before _ (help_text argument) (stops_before _ (value_sign argument name) (stops_before _ (name_word name) (writes_then _ _ (writes_then _ _ c.in_ok-put_piece.ensures.written c.in_ok-write_conflicts.ensures) (writes_same _ _ c.star.ensures c.in_err-put_piece-2.ensures.written)))))))

pub returns-in_err-write_name : goal.returns-in_err-write_name
unfolding argument_line
returns-in_err-write_name g c =
    let above : Node = c.args.above.now.node in
    let node : Node = c.args.command.now.node in
    let argument : Arg = c.args.argument.now in
    let name : ShownName = c.args.name.now in
    put_stopped _ c.from_residual-in_err-write_name.ensures.1 (stops_before _ line_end (stops_before _ (values_text argument) (stops_before _ (help_text argument) (stops_before _ (value_sign argument name) (writes_then _ _ (writes_then _ _ (writes_then _ _ c.in_ok-put_piece.ensures.written c.in_ok-write_conflicts.ensures) (writes_same _ _ c.star.ensures c.in_ok-put_piece-2.ensures.written)) c.in_err-write_name.ensures)))))

pub returns-in_err-put_piece-3 : goal.returns-in_err-put_piece-3
unfolding argument_line
returns-in_err-put_piece-3 g c =
    let above : Node = c.args.above.now.node in
    let node : Node = c.args.command.now.node in
    let argument : Arg = c.args.argument.now in
    let name : ShownName = c.args.name.now in
    put_stopped _ c.from_residual-in_err-put_piece-3.ensures.1 (stops_before _ line_end (stops_before _ (values_text argument) (stops_before _ (help_text argument) (writes_then _ _ (writes_then _ _ (writes_then _ _ (writes_then _ _ c.in_ok-put_piece.ensures.written c.in_ok-write_conflicts.ensures) (writes_same _ _ c.star.ensures c.in_ok-put_piece-2.ensures.written)) c.in_ok-write_name.ensures) (writes_same _ _ c.value_sign.ensures c.in_err-put_piece-3.ensures.written)))))

pub returns-in_err-write_help : goal.returns-in_err-write_help
unfolding argument_line
returns-in_err-write_help g c =
    let above : Node = c.args.above.now.node in
    let node : Node = c.args.command.now.node in
    let argument : Arg = c.args.argument.now in
    let name : ShownName = c.args.name.now in
    put_stopped _ c.from_residual-in_err-write_help.ensures.1 (stops_before _ line_end (stops_before _ (values_text argument) (writes_then _ _ (writes_then _ _ (writes_then _ _ (writes_then _ _ (writes_then _ _ c.in_ok-put_piece.ensures.written c.in_ok-write_conflicts.ensures) (writes_same _ _ c.star.ensures c.in_ok-put_piece-2.ensures.written)) c.in_ok-write_name.ensures) (writes_same _ _ c.value_sign.ensures c.in_ok-put_piece-3.ensures.written)) c.in_err-write_help.ensures)))

pub returns-in_err-write_values : goal.returns-in_err-write_values
unfolding argument_line
returns-in_err-write_values g c =
    let above : Node = c.args.above.now.node in
    let node : Node = c.args.command.now.node in
    let argument : Arg = c.args.argument.now in
    let name : ShownName = c.args.name.now in
    put_stopped _ c.from_residual-in_err-write_values.ensures.1 (stops_before _ line_end (writes_then _ _ (writes_then _ _ (writes_then _ _ (writes_then _ _ (writes_then _ _ (writes_then _ _ c.in_ok-put_piece.ensures.written c.in_ok-write_conflicts.ensures) (writes_same _ _ c.star.ensures c.in_ok-put_piece-2.ensures.written)) c.in_ok-write_name.ensures) (writes_same _ _ c.value_sign.ensures c.in_ok-put_piece-3.ensures.written)) c.in_ok-write_help.ensures) c.in_err-write_values.ensures))

pub returns : goal.returns
unfolding argument_line line_end
returns g c =
    let above : Node = c.args.above.now.node in
    let node : Node = c.args.command.now.node in
    let argument : Arg = c.args.argument.now in
    let name : ShownName = c.args.name.now in
    writes_then _ _ (writes_then _ _ (writes_then _ _ (writes_then _ _ (writes_then _ _ (writes_then _ _ (writes_then _ _ c.in_ok-put_piece.ensures.written c.in_ok-write_conflicts.ensures) (writes_same _ _ c.star.ensures c.in_ok-put_piece-2.ensures.written)) c.in_ok-write_name.ensures) (writes_same _ _ c.value_sign.ensures c.in_ok-put_piece-3.ensures.written)) c.in_ok-write_help.ensures) c.in_ok-write_values.ensures) c.put_piece-4.ensures.written
