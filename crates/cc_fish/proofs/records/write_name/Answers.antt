use Rattle.std.proofs.Common.{◌≡◌, ◌++◌, ◌∷◌, [], ℕ, List, ap, append_assoc, codes, sym}
use Rattle.std.specs.Option.{option_copied}
use Rattle.cc_base.specs.Bytes.{line_feed}
use Rattle.cc_base.proofs.WrittenTexts.{writes_same, writes_then}
use Rattle.cc_base.proofs.Stopped.{put_stopped, stops_before}
use Rattle.cc_fish.specs.Script.{child_text, help_text}
use Rattle.cc_fish.proofs.records.write_name.Goals as goal

-- the text up to the name, with the given mark
abbrev before_name : List ℕ → List ℕ → List ℕ
before_name front mark = front ++ mark ++ codes " -a \""

-- the name is written together with the quote after it
closed : (before name : List ℕ) → before ++ (name ++ codes "\"") ≡ before ++ name ++ codes "\""
closed before name = sym (append_assoc before name (codes "\""))

pub returns-in_err-put_around : goal.returns-in_err-put_around
unfolding child_text
returns-in_err-put_around g c = put_stopped _ c.from_residual.ensures.1 (stops_before _ (line_feed ∷ []) (stops_before _ (help_text (option_copied c.args.about)) (stops_before _ (codes "\"") (stops_before _ c.args.name.now (writes_same _ _ (ap (before_name c.args.front.now) c.no_files_mark.ensures) c.in_err-put_around.ensures)))))

pub returns-in_err-put_pieces : goal.returns-in_err-put_pieces
unfolding child_text
returns-in_err-put_pieces g c = put_stopped _ c.from_residual-in_err-put_pieces.ensures.1 (stops_before _ (line_feed ∷ []) (stops_before _ (help_text (option_copied c.args.about)) (writes_same _ _ (closed _ c.args.name.now) (writes_then _ _ (writes_same _ _ (ap (before_name c.args.front.now) c.no_files_mark.ensures) c.in_ok-put_around.ensures) c.in_err-put_pieces.ensures))))

pub returns-in_err-write_help : goal.returns-in_err-write_help
unfolding child_text
returns-in_err-write_help g c = put_stopped _ c.from_residual-in_err-write_help.ensures.1 (stops_before _ (line_feed ∷ []) (writes_then _ _ (writes_same _ _ (closed _ c.args.name.now) (writes_then _ _ (writes_same _ _ (ap (before_name c.args.front.now) c.no_files_mark.ensures) c.in_ok-put_around.ensures) c.in_ok-put_pieces.ensures)) c.in_err-write_help.ensures))

pub returns : goal.returns
unfolding child_text
returns g c = writes_then _ _ (writes_then _ _ (writes_same _ _ (closed _ c.args.name.now) (writes_then _ _ (writes_same _ _ (ap (before_name c.args.front.now) c.no_files_mark.ensures) c.in_ok-put_around.ensures) c.in_ok-put_pieces.ensures)) c.in_ok-write_help.ensures) c.put_piece.ensures.written
