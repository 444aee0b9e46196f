use Rattle.std.proofs.Common.{◌≡◌, ◌++◌, ◌∙◌, ℕ, List, ap, append_assoc, codes, sym}
use Rattle.cc_base.proofs.WrittenTexts.{writes_same, writes_then}
use Rattle.cc_base.proofs.Stopped.{put_stopped, stops_before}
use Rattle.cc_zsh.specs.Options.{line_end}
use Rattle.cc_zsh.specs.Positionals.{count_text, positional_help, positional_text}
use Rattle.cc_zsh.specs.Values.{value_text}
use Rattle.cc_zsh.proofs.positionals.write_positional.Goals as goal

colon : (count : List ℕ) {id other : List ℕ} → other ≡ id →
    (codes "'" ++ count) ++ (codes ":" ++ other) ≡ codes "'" ++ count ++ codes ":" ++ id
colon count {id} {other} is = sym (append_assoc (codes "'" ++ count) (codes ":") other) ∙ ap (λ (t : List ℕ). codes "'" ++ count ++ codes ":" ++ t) is

pub returns-in_err-put_piece : goal.returns-in_err-put_piece
unfolding positional_text
returns-in_err-put_piece g c = put_stopped _ c.from_residual.ensures.1 (stops_before _ line_end (stops_before _ (value_text c.args.argument.now) (stops_before _ (codes ":") (stops_before _ (positional_help c.args.argument.now.help) (stops_before _ c.args.argument.now.id (stops_before _ (codes ":") (stops_before _ (count_text c.args.has_children c.args.argument.now) c.in_err-put_piece.ensures.written)))))))

pub returns-in_err-write_count : goal.returns-in_err-write_count
unfolding positional_text
returns-in_err-write_count g c = put_stopped _ c.from_residual-in_err-write_count.ensures.1 (stops_before _ line_end (stops_before _ (value_text c.args.argument.now) (stops_before _ (codes ":") (stops_before _ (positional_help c.args.argument.now.help) (stops_before _ c.args.argument.now.id (stops_before _ (codes ":") (writes_then _ _ c.in_ok-put_piece.ensures.written c.in_err-write_count.ensures)))))))

pub returns-in_err-put_pieces : goal.returns-in_err-put_pieces
unfolding positional_text
returns-in_err-put_pieces g c = put_stopped _ c.from_residual-in_err-put_pieces.ensures.1 (stops_before _ line_end (stops_before _ (value_text c.args.argument.now) (stops_before _ (codes ":") (stops_before _ (positional_help c.args.argument.now.help) (writes_same _ _ (colon (count_text c.args.has_children c.args.argument.now) c.get_id.ensures) (writes_then _ _ (writes_then _ _ c.in_ok-put_piece.ensures.written c.in_ok-write_count.ensures) c.in_err-put_pieces.ensures))))))

pub returns-in_err-write_help : goal.returns-in_err-write_help
unfolding positional_text
returns-in_err-write_help g c = put_stopped _ c.from_residual-in_err-write_help.ensures.1 (stops_before _ line_end (stops_before _ (value_text c.args.argument.now) (stops_before _ (codes ":") (writes_then _ _ (writes_same _ _ (colon (count_text c.args.has_children c.args.argument.now) c.get_id.ensures) (writes_then _ _ (writes_then _ _ c.in_ok-put_piece.ensures.written c.in_ok-write_count.ensures) c.in_ok-put_pieces.ensures)) (writes_same _ _ (ap positional_help c.get_help.ensures) c.in_err-write_help.ensures)))))

pub returns-in_err-put_piece-2 : goal.returns-in_err-put_piece-2
unfolding positional_text
returns-in_err-put_piece-2 g c = put_stopped _ c.from_residual-in_err-put_piece-2.ensures.1 (stops_before _ line_end (stops_before _ (value_text c.args.argument.now) (writes_then _ _ (writes_then _ _ (writes_same _ _ (colon (count_text c.args.has_children c.args.argument.now) c.get_id.ensures) (writes_then _ _ (writes_then _ _ c.in_ok-put_piece.ensures.written c.in_ok-write_count.ensures) c.in_ok-put_pieces.ensures)) (writes_same _ _ (ap positional_help c.get_help.ensures) c.in_ok-write_help.ensures)) c.in_err-put_piece-2.ensures.written)))

pub returns-in_err-write_value : goal.returns-in_err-write_value
unfolding positional_text
returns-in_err-write_value g c = put_stopped _ c.from_residual-in_err-write_value.ensures.1 (stops_before _ line_end (writes_then _ _ (writes_then _ _ (writes_then _ _ (writes_same _ _ (colon (count_text c.args.has_children c.args.argument.now) c.get_id.ensures) (writes_then _ _ (writes_then _ _ c.in_ok-put_piece.ensures.written c.in_ok-write_count.ensures) c.in_ok-put_pieces.ensures)) (writes_same _ _ (ap positional_help c.get_help.ensures) c.in_ok-write_help.ensures)) c.in_ok-put_piece-2.ensures.written) c.in_err-write_value.ensures))

pub returns : goal.returns
unfolding positional_text line_end
returns g c = writes_then _ _ (writes_then _ _ (writes_then _ _ (writes_then _ _ (writes_same _ _ (colon (count_text c.args.has_children c.args.argument.now) c.get_id.ensures) (writes_then _ _ (writes_then _ _ c.in_ok-put_piece.ensures.written c.in_ok-write_count.ensures) c.in_ok-put_pieces.ensures)) (writes_same _ _ (ap positional_help c.get_help.ensures) c.in_ok-write_help.ensures)) c.in_ok-put_piece-2.ensures.written) c.in_ok-write_value.ensures) c.put_piece-3.ensures.written
