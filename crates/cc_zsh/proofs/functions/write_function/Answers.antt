use Rattle.std.proofs.Common.{◌≡◌, ◌++◌, ℕ, List, append_assoc}
use Rattle.cc_base.proofs.WrittenTexts.{writes_same, writes_then}
use Rattle.cc_base.proofs.Stopped.{put_stopped, stops_before}
use Rattle.cc_zsh.specs.Functions.{commands_begin, describe_begins, describe_ends, entries_text, function_begins, function_text, unless_defined}
use Rattle.cc_zsh.specs.Named.{function_named}
use Rattle.cc_zsh.specs.Nested.{function_label}
use Rattle.cc_zsh.specs.Script.{fixed_texts}
use Rattle.cc_zsh.proofs.functions.write_function.Goals as goal

regroup : (p e a n b : List ℕ) → (p ++ e) ++ (a ++ n ++ b) ≡ p ++ e ++ a ++ n ++ b
regroup p e a n b = simp append_assoc

pub returns-in_err-write_function_begins : goal.returns-in_err-write_function_begins
unfolding function_text
returns-in_err-write_function_begins g c =
    let f = function_named c.args.command.now in
    put_stopped _ c.from_residual.ensures.1 (stops_before _ describe_ends (stops_before _ f.name (stops_before _ describe_begins (stops_before _ (entries_text f.entries) c.in_err-write_function_begins.ensures))))

pub returns-in_err-write_entries : goal.returns-in_err-write_entries
unfolding function_text
returns-in_err-write_entries g c =
    let f = function_named c.args.command.now in
    put_stopped _ c.from_residual-in_err-write_entries.ensures.1 (stops_before _ describe_ends (stops_before _ f.name (stops_before _ describe_begins (writes_then _ _ c.in_ok-write_function_begins.ensures c.in_err-write_entries.ensures))))

pub returns : goal.returns
unfolding function_text fixed_texts
returns g c =
    let f = function_named c.args.command.now in
    let label = function_label f.name in
    writes_same _ _ (regroup (unless_defined ++ label ++ function_begins ++ label ++ commands_begin) (entries_text f.entries) describe_begins f.name describe_ends) (writes_then _ _ (writes_then _ _ c.in_ok-write_function_begins.ensures c.in_ok-write_entries.ensures) c.put_pieces.ensures)
