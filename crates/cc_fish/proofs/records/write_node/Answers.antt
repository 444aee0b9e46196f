use Rattle.std.proofs.Common.{ap, false, flat_map, true}
use Rattle.cc_base.proofs.WrittenTexts.{writes_same, writes_then}
use Rattle.cc_base.proofs.Stopped.{put_stopped, stops_before}
use Rattle.cc_fish.specs.Script.{argument_text, below_text, flags_text, node_text, options_text}
use Rattle.cc_fish.proofs.records.write_node.Goals as goal

pub returns-in_err-write_arguments : goal.returns-in_err-write_arguments
unfolding flags_text node_text options_text
returns-in_err-write_arguments g c =
    let front = c.args.front.now in
    put_stopped _ c.from_residual.ensures.1 (stops_before _ (below_text front c.args.command.now) (stops_before _ (flags_text front c.args.command.now.node) (writes_same _ _ (ap (flat_map (argument_text front true)) c.get_opts.ensures) c.in_err-write_arguments.ensures)))

pub returns-in_err-write_arguments-2 : goal.returns-in_err-write_arguments-2
unfolding flags_text node_text options_text
returns-in_err-write_arguments-2 g c =
    let front = c.args.front.now in
    put_stopped _ c.from_residual-in_err-write_arguments-2.ensures.1 (stops_before _ (below_text front c.args.command.now) (writes_then _ _ (writes_same _ _ (ap (flat_map (argument_text front true)) c.get_opts.ensures) c.in_ok-write_arguments.ensures) (writes_same _ _ (ap (flat_map (argument_text front false)) c.get_flags.ensures) c.in_err-write_arguments-2.ensures)))

pub returns : goal.returns
unfolding flags_text node_text options_text
returns g c =
    let front = c.args.front.now in
    writes_then _ _ (writes_then _ _ (writes_same _ _ (ap (flat_map (argument_text front true)) c.get_opts.ensures) c.in_ok-write_arguments.ensures) (writes_same _ _ (ap (flat_map (argument_text front false)) c.get_flags.ensures) c.in_ok-write_arguments-2.ensures)) c.write_below.ensures
