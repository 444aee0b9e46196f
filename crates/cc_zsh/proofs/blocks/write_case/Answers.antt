use Rattle.std.proofs.Common.{◌≡◌, ◌++◌, ℕ, List, ap, append_assoc, codes}
use Rattle.cc_base.specs.Bytes.{space}
use Rattle.cc_base.proofs.WrittenTexts.{writes_same, writes_then}
use Rattle.cc_command.specs.declared.node.Node.{Node}
use Rattle.cc_base.proofs.Stopped.{put_stopped, stops_before}
use Rattle.cc_quote.specs.Escapes.{replace_byte}
use Rattle.cc_zsh.specs.Nested.{case_line, case_line_in, case_state, case_text, context_command, context_text, set_context, set_words}
use Rattle.cc_zsh.specs.Script.{fixed_texts}
use Rattle.cc_zsh.proofs.blocks.write_case.Goals as goal

abbrev before : List ℕ → List ℕ → List ℕ
before index name = case_state ++ name ++ set_words ++ index ++ set_context

abbrev after : List ℕ → List ℕ
after index = context_command ++ index ++ case_line ++ index ++ case_line_in

regroup : (p d a i b c : List ℕ) → (p ++ d) ++ (a ++ i ++ b ++ i ++ c) ≡ p ++ d ++ a ++ i ++ b ++ i ++ c
regroup p d a i b c = simp append_assoc

parts : (node : Node) (index : List ℕ) → (before index node.name ++ context_text node) ++ after index ≡ case_text node index
unfolding case_text
parts node index = regroup (before index node.name) (context_text node) context_command index case_line case_line_in

pub returns-in_err-put_pieces : goal.returns-in_err-put_pieces
unfolding fixed_texts
returns-in_err-put_pieces g c = put_stopped _ c.from_residual.ensures.1 (writes_same _ _ (parts c.args.command.now.node c.args.index.now) (stops_before _ (after c.args.index.now) (stops_before _ (context_text c.args.command.now.node) (writes_same _ _ (ap (before c.args.index.now) c.get_name-name.ensures) c.in_err-put_pieces.ensures))))

pub returns-in_err-write_dashed : goal.returns-in_err-write_dashed
unfolding fixed_texts
returns-in_err-write_dashed g c = put_stopped _ c.from_residual-in_err-write_dashed.ensures.1 (writes_same _ _ (parts c.args.command.now.node c.args.index.now) (stops_before _ (after c.args.index.now) (writes_then _ _ (writes_same _ _ (ap (before c.args.index.now) c.get_name-name.ensures) c.in_ok-put_pieces.ensures) (writes_same _ _ (ap (replace_byte space (codes "-")) c.full_name.ensures) c.in_err-write_dashed.ensures))))

pub returns : goal.returns
unfolding fixed_texts
returns g c = writes_same _ _ (parts c.args.command.now.node c.args.index.now) (writes_then _ _ (writes_then _ _ (writes_same _ _ (ap (before c.args.index.now) c.get_name-name.ensures) c.in_ok-put_pieces.ensures) (writes_same _ _ (ap (replace_byte space (codes "-")) c.full_name.ensures) c.in_ok-write_dashed.ensures)) c.put_pieces-2.ensures)
