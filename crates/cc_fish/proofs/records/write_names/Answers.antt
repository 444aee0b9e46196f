use Rattle.std.proofs.Common.{ap, flat_map}
use Rattle.cc_arg.specs.ShownNames.{shown_longs}
use Rattle.cc_base.proofs.WrittenTexts.{writes_same, writes_then}
use Rattle.cc_base.proofs.Stopped.{put_stopped, stops_before}
use Rattle.cc_fish.specs.Script.{help_text, long_text, names_text}
use Rattle.cc_fish.proofs.records.write_names.Goals as goal

pub returns-in_err-write_shorts : goal.returns-in_err-write_shorts
unfolding names_text
returns-in_err-write_shorts g c = put_stopped _ c.from_residual.ensures.1 (stops_before _ (help_text c.args.argument.now.help) (stops_before _ (flat_map long_text (shown_longs c.args.argument.now)) c.in_err-write_shorts.ensures))

pub returns-in_err-write_longs : goal.returns-in_err-write_longs
unfolding names_text
returns-in_err-write_longs g c = put_stopped _ c.from_residual-in_err-write_longs.ensures.1 (stops_before _ (help_text c.args.argument.now.help) (writes_then _ _ c.in_ok-write_shorts.ensures c.in_err-write_longs.ensures))

pub returns : goal.returns
unfolding names_text
returns g c = writes_then _ _ (writes_then _ _ c.in_ok-write_shorts.ensures c.in_ok-write_longs.ensures) (writes_same _ _ (ap help_text c.get_help.ensures) c.write_help.ensures)
