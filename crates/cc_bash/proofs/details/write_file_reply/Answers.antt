use Rattle.std.proofs.Common.{◌≡◌, ◌++◌, ℕ, List, append_assoc, codes, refl}
use Rattle.cc_base.proofs.WrittenTexts.{writes_same, writes_then}
use Rattle.cc_base.proofs.Stopped.{put_stopped, stops_before}
use Rattle.cc_bash.specs.Arms.{offered_by}
use Rattle.cc_bash.specs.Script.{reply_text}
use Rattle.cc_bash.specs.Texts.{fixed_texts, keep_separator, mode_begins, mode_ends, separator_back}
use Rattle.cc_bash.specs.declared.texts.TheConstants.{KEEP_SEPARATOR}
use Rattle.cc_bash.proofs.details.write_file_reply.Goals as goal

keep_is : KEEP_SEPARATOR.now ≡ keep_separator
unfolding fixed_texts
keep_is = refl

regroup : (a b c d e : List ℕ) → a ++ (b ++ c ++ d ++ e) ≡ a ++ b ++ (c ++ d ++ e)
regroup a b c d e = simp append_assoc

pub returns-in_err-put_piece : goal.returns-in_err-put_piece
returns-in_err-put_piece g c = put_stopped _ c.from_residual.ensures.1 (stops_before _ (mode_begins ++ codes "filenames" ++ mode_ends) (stops_before _ separator_back (stops_before _ (reply_text (offered_by c.args.argument.now)) (writes_same _ _ keep_is c.in_err-put_piece.ensures.written))))

pub returns-in_err-write_reply : goal.returns-in_err-write_reply
returns-in_err-write_reply g c = put_stopped _ c.from_residual-in_err-write_reply.ensures.1 (stops_before _ (mode_begins ++ codes "filenames" ++ mode_ends) (stops_before _ separator_back (writes_then _ _ (writes_same _ _ keep_is c.in_ok-put_piece.ensures.written) c.in_err-write_reply.ensures)))

pub returns : goal.returns
unfolding fixed_texts
returns g c = writes_same _ _ (regroup (keep_separator ++ reply_text (offered_by c.args.argument.now)) separator_back mode_begins (codes "filenames") mode_ends) (writes_then _ _ (writes_then _ _ c.in_ok-put_piece.ensures.written c.in_ok-write_reply.ensures) c.put_pieces.ensures)
