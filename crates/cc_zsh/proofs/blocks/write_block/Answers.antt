use Rattle.std.proofs.Common.{◌≡◌, ap, flat_map, refl}
use Rattle.cc_base.proofs.WrittenTexts.{writes_same, writes_then}
use Rattle.cc_command.specs.declared.node.Node.{Node}
use Rattle.cc_base.proofs.Stopped.{put_stopped, stops_before}
use Rattle.cc_zsh.specs.Nested.{below_text, block_begins, block_ends, block_text}
use Rattle.cc_zsh.specs.Options.{argument_text, flags_text, options_text}
use Rattle.cc_zsh.specs.Positionals.{positionals_text}
use Rattle.cc_zsh.specs.declared.texts.TheConstants.{BLOCK_BEGINS, BLOCK_ENDS}
use Rattle.cc_zsh.proofs.blocks.write_block.Goals as goal

begins_is : BLOCK_BEGINS.now ≡ block_begins
unfolding block_begins
begins_is = refl

ends_is : BLOCK_ENDS.now ≡ block_ends
unfolding block_ends
ends_is = refl

pub returns-in_err-put_piece : goal.returns-in_err-put_piece
unfolding block_text flags_text options_text
returns-in_err-put_piece g c =
    let above : Node = c.args.above.now.node in
    let node : Node = c.args.command.now.node in
    let lines = flat_map (argument_text above node) in
    put_stopped _ c.from_residual.ensures.1 (stops_before _ block_ends (stops_before _ (below_text c.args.command.now) (stops_before _ (positionals_text c.args.command.now) (stops_before _ (flags_text above node) (stops_before _ (options_text above node) (writes_same _ _ begins_is c.in_err-put_piece.ensures.written))))))

pub returns-in_err-write_arguments : goal.returns-in_err-write_arguments
unfolding block_text flags_text options_text
returns-in_err-write_arguments g c =
    let above : Node = c.args.above.now.node in
    let node : Node = c.args.command.now.node in
    let lines = flat_map (argument_text above node) in
    put_stopped _ c.from_residual-in_err-write_arguments.ensures.1 (stops_before _ block_ends (stops_before _ (below_text c.args.command.now) (stops_before _ (positionals_text c.args.command.now) (stops_before _ (flags_text above node) (writes_then _ _ (writes_same _ _ begins_is c.in_ok-put_piece.ensures.written) (writes_same _ _ (ap lines c.get_opts.ensures) c.in_err-write_arguments.ensures))))))

pub returns-in_err-write_arguments-2 : goal.returns-in_err-write_arguments-2
unfolding block_text flags_text options_text
returns-in_err-write_arguments-2 g c =
    let above : Node = c.args.above.now.node in
    let node : Node = c.args.command.now.node in
    let lines = flat_map (argument_text above node) in
    put_stopped _ c.from_residual-in_err-write_arguments-2.ensures.1 (stops_before _ block_ends (stops_before _ (below_text c.args.command.now) (stops_before _ (positionals_text c.args.command.now) (writes_then _ _ (writes_then _ _ (writes_same _ _ begins_is c.in_ok-put_piece.ensures.written) (writes_same _ _ (ap lines c.get_opts.ensures) c.in_ok-write_arguments.ensures)) (writes_same _ _ (ap lines c.get_flags.ensures) c.in_err-write_arguments-2.ensures)))))

pub returns-in_err-write_positionals : goal.returns-in_err-write_positionals
unfolding block_text flags_text options_text
returns-in_err-write_positionals g c =
    let above : Node = c.args.above.now.node in
    let node : Node = c.args.command.now.node in
    let lines = flat_map (argument_text above node) in
    put_stopped _ c.from_residual-in_err-write_positionals.ensures.1 (stops_before _ block_ends (stops_before _ (below_text c.args.command.now) (writes_then _ _ (writes_then _ _ (writes_then _ _ (writes_same _ _ begins_is c.in_ok-put_piece.ensures.written) (writes_same _ _ (ap lines c.get_opts.ensures) c.in_ok-write_arguments.ensures)) (writes_same _ _ (ap lines c.get_flags.ensures) c.in_ok-write_arguments-2.ensures)) c.in_err-write_positionals.ensures)))

pub returns-in_err-write_below : goal.returns-in_err-write_below
unfolding block_text flags_text options_text
returns-in_err-write_below g c =
    let above : Node = c.args.above.now.node in
    let node : Node = c.args.command.now.node in
    let lines = flat_map (argument_text above node) in
    put_stopped _ c.from_residual-in_err-write_below.ensures.1 (stops_before _ block_ends (writes_then _ _ (writes_then _ _ (writes_then _ _ (writes_then _ _ (writes_same _ _ begins_is c.in_ok-put_piece.ensures.written) (writes_same _ _ (ap lines c.get_opts.ensures) c.in_ok-write_arguments.ensures)) (writes_same _ _ (ap lines c.get_flags.ensures) c.in_ok-write_arguments-2.ensures)) c.in_ok-write_positionals.ensures) c.in_err-write_below.ensures))

pub returns : goal.returns
unfolding block_text flags_text options_text
returns g c =
    let above : Node = c.args.above.now.node in
    let node : Node = c.args.command.now.node in
    let lines = flat_map (argument_text above node) in
    writes_then _ _ (writes_then _ _ (writes_then _ _ (writes_then _ _ (writes_then _ _ (writes_same _ _ begins_is c.in_ok-put_piece.ensures.written) (writes_same _ _ (ap lines c.get_opts.ensures) c.in_ok-write_arguments.ensures)) (writes_same _ _ (ap lines c.get_flags.ensures) c.in_ok-write_arguments-2.ensures)) c.in_ok-write_positionals.ensures) c.in_ok-write_below.ensures) (writes_same _ _ ends_is c.put_piece-2.ensures.written)
