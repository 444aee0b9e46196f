use Rattle.std.proofs.Common.{◌≡◌, ◌∙◌, ◌++◌, [], ℕ, List, ap, append_assoc, codes, rules}
use Rattle.std.specs.Prelude.{unwrap_or}
use Rattle.cc_base.proofs.WrittenTexts.{writes_same, writes_then}
use Rattle.cc_base.proofs.Stopped.{put_stopped, stops_before}
use Rattle.cc_quote.specs.ZshQuote.{zsh_escaped_help}
use Rattle.cc_zsh.specs.Functions.{entry_text}
use Rattle.cc_zsh.proofs.functions.write_entry.Goals as goal

regroup : (a b c d : List ℕ) → a ++ ((b ++ c) ++ d) ≡ ((a ++ b) ++ c) ++ d
regroup a b c d = simp append_assoc

pub returns-in_err-put_pieces : goal.returns-in_err-put_pieces
unfolding entry_text zsh_escaped_help
returns-in_err-put_pieces g c =
    let about : List ℕ = unwrap_or c.args.child.now.node.about [] in
    put_stopped _ c.from_residual.ensures.1 (stops_before _ (codes "' \\") (stops_before _ (zsh_escaped_help about) (stops_before _ (codes ":") c.in_err-put_pieces.ensures)))

pub returns : goal.returns
unfolding entry_text zsh_escaped_help
returns g c =
    let about : List ℕ = unwrap_or c.args.child.now.node.about [] in
    let is : c.unwrap_or-about.result.now ≡ about = search rules in
    writes_same _ _ (ap (λ help. (codes "\n'" ++ c.args.name.now) ++ ((codes ":" ++ zsh_escaped_help help) ++ codes "' \\")) is
    ∙ regroup (codes "\n'" ++ c.args.name.now) (codes ":") (zsh_escaped_help about) (codes "' \\")) (writes_then _ _ c.in_ok-put_pieces.ensures c.put_escaped_between.ensures)
