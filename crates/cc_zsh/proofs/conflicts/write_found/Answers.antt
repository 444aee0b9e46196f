use Rattle.std.proofs.Common.{◌≡◌, ◌++◌, List, codes, refl, rules, true}
use Rattle.cc_arg.specs.declared.parts.ArgParts.{ArgParts as Arg}
use Rattle.cc_base.specs.Joined.{joined}
use Rattle.cc_base.proofs.WrittenTexts.{writes_same, writes_then}
use Rattle.cc_base.proofs.Stopped.{put_stopped, stops_before}
use Rattle.cc_zsh.specs.Conflicts.{conflict_words, conflicts_text, has_arguments, with_ids}
use Rattle.cc_zsh.proofs.conflicts.write_found.Goals as goal

bracketed : (found : List Arg) → has_arguments found ≡ true →
    codes "(" ++ joined (codes " ") (conflict_words found) ++ codes ")" ≡ conflicts_text found
unfolding conflicts_text
bracketed found inhabited = rw inhabited refl

pub returns-in_err-put_piece : goal.returns-in_err-put_piece
returns-in_err-put_piece g c =
    let found : List Arg = with_ids c.args.arguments.now c.args.ids.now in
    let inhabited : has_arguments found ≡ true = search rules in
    put_stopped _ c.from_residual.ensures.1 (writes_same _ _ (bracketed found inhabited) (stops_before _ (codes ")") (stops_before _ (joined (codes " ") (conflict_words found)) c.in_err-put_piece.ensures.written)))

pub returns-in_err-write_words : goal.returns-in_err-write_words
returns-in_err-write_words g c =
    let found : List Arg = with_ids c.args.arguments.now c.args.ids.now in
    let inhabited : has_arguments found ≡ true = search rules in
    put_stopped _ c.from_residual-in_err-write_words.ensures.1 (writes_same _ _ (bracketed found inhabited) (stops_before _ (codes ")") (writes_then _ _ c.in_ok-put_piece.ensures.written c.in_err-write_words.ensures)))

pub returns : goal.returns
returns g c =
    let found : List Arg = with_ids c.args.arguments.now c.args.ids.now in
    let inhabited : has_arguments found ≡ true = search rules in
    writes_same _ _ (bracketed found inhabited) (writes_then _ _ (writes_then _ _ c.in_ok-put_piece.ensures.written c.in_ok-write_words.ensures) c.put_piece-2.ensures.written)
