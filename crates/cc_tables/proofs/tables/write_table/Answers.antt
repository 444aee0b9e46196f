use Rattle.std.proofs.Common.{◌≡◌, ◌∙◌, ◌++◌, ap}
use Rattle.cc_base.proofs.WrittenTexts.{writes_same, writes_then}
use Rattle.cc_base.proofs.Stopped.{put_stopped, stops_before}
use Rattle.cc_tables.specs.Script.{node_text, table_text}
use Rattle.cc_tables.specs.declared.tables.Frame.{Frame}
use Rattle.cc_tables.proofs.tables.write_table.Goals as goal

pub returns-in_err-put_around : goal.returns-in_err-put_around
unfolding node_text table_text
returns-in_err-put_around g c =
    let frame : Frame = c.args.frame.now in
    let around : c.as_str.result.now ++ c.args.key.now ++ c.as_str-2.result.now ≡ frame.key_begin ++ c.args.key.now ++ frame.key_end = ap (λ t. t ++ c.args.key.now ++ c.as_str-2.result.now) c.as_str.ensures ∙ ap (λ t. frame.key_begin ++ c.args.key.now ++ t) c.as_str-2.ensures in
    put_stopped _ c.from_residual.ensures.1 (stops_before _ frame.table_end (stops_before _ _ (writes_same _ _ around c.in_err-put_around.ensures)))

pub returns-in_err-write_rows : goal.returns-in_err-write_rows
unfolding node_text table_text
returns-in_err-write_rows g c =
    let frame : Frame = c.args.frame.now in
    let around : c.as_str.result.now ++ c.args.key.now ++ c.as_str-2.result.now ≡ frame.key_begin ++ c.args.key.now ++ frame.key_end = ap (λ t. t ++ c.args.key.now ++ c.as_str-2.result.now) c.as_str.ensures ∙ ap (λ t. frame.key_begin ++ c.args.key.now ++ t) c.as_str-2.ensures in
    put_stopped _ c.from_residual-in_err-write_rows.ensures.1 (stops_before _ frame.table_end (writes_then _ _ (writes_same _ _ around c.in_ok-put_around.ensures) c.in_err-write_rows.ensures))

pub returns : goal.returns
unfolding node_text table_text
returns g c =
    let frame : Frame = c.args.frame.now in
    let around : c.as_str.result.now ++ c.args.key.now ++ c.as_str-2.result.now ≡ frame.key_begin ++ c.args.key.now ++ frame.key_end = ap (λ t. t ++ c.args.key.now ++ c.as_str-2.result.now) c.as_str.ensures ∙ ap (λ t. frame.key_begin ++ c.args.key.now ++ t) c.as_str-2.ensures in
    writes_then _ _ (writes_then _ _ (writes_same _ _ around c.in_ok-put_around.ensures) c.in_ok-write_rows.ensures) (writes_same _ _ c.as_str-3.ensures c.put_piece.ensures.written)
