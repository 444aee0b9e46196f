use Rattle.std.proofs.lemmas.Result.{err_from_is_err_and}
use Rattle.complgen_scripts.specs.ScriptEnds.{known_shell, unknown_shell}
use Rattle.complgen_scripts.proofs.ScriptLemmas.{named_reads}
use Rattle.complgen_scripts.proofs.WritingLemmas.{same}
use Rattle.complgen_scripts.proofs.one_script.script.Goals as goal

pub returns-in_err-shell-clause-ends : goal.returns-in_err-shell-clause-ends
returns-in_err-shell-clause-ends g c =
    let p = err_from_is_err_and c.from_residual.result c.from_residual.ensures.1 in
    rw (p.1, p.2) (unknown_shell _ c.in_err-shell.ensures (same _ _ _))

pub returns-clause-ends : goal.returns-clause-ends
returns-clause-ends g c = known_shell _ _ c.in_ok-shell.ensures c.script_by.ensures.ends

pub returns-clause-read_back : goal.returns-clause-read_back
returns-clause-read_back g c =
    named_reads _ _ _ _ c.script_by.result c.in_ok-shell.ensures c.script_by.ensures.read_back
