use Rattle.std.proofs.lemmas.Result.{err_from_is_err_and}
use Rattle.cc_env.proofs.OwnLemmas.{no_answer, no_command, no_request, no_shell, one_answer, renamed}
use Rattle.cc_env.proofs.asking.own_answers.answer_own.Goals as goal

pub returns-in_err-shell : goal.returns-in_err-shell
returns-in_err-shell g c =
    let p = err_from_is_err_and c.from_residual.result c.from_residual.ensures.1 in
    rw (p.1, p.2) (no_shell _ _ _ _ _ _ c.in_err-shell.ensures)

pub returns-in_default : goal.returns-in_default
returns-in_default g c =
    no_request _ _ _ _ _ c.in_ok-shell.field-0 c.in_default.not-Some c.in_ok-shell.ensures

pub returns-in_err-command : goal.returns-in_err-command
returns-in_err-command g c =
    let p = err_from_is_err_and c.from_residual-in_err-command.result c.from_residual-in_err-command.ensures.1 in
    rw (p.1, p.2) (no_command _ _ _ _ _ c.in_ok-shell.field-0 c.in-Some.shell c.in-Some.is
    c.in_ok-shell.ensures _ c.in_err-command.ensures)

pub returns-in_err-answer_call : goal.returns-in_err-answer_call
returns-in_err-answer_call g c =
    let p = err_from_is_err_and c.from_residual-in_err-answer_call.result c.from_residual-in_err-answer_call.ensures.1 in
    rw (p.1, p.2) (no_answer _ _ _ _ _ c.in_ok-shell.field-0 c.in-Some.shell c.in-Some.is
    c.in_ok-shell.ensures c.in_ok-command.command _ c.in_ok-command.ensures
    (renamed _ _ _ _ _ _ _ _ _ _ _ _ _ _ _ c.shell_program.ensures.shell
    c.shell_program.ensures.variable c.shell_program.ensures.bin c.shell_program.ensures.completer
    c.in_err-answer_call.ensures))

pub returns : goal.returns
returns g c =
    one_answer _ _ _ _ _ c.in_ok-shell.field-0 c.in-Some.shell c.in-Some.is c.in_ok-shell.ensures
    c.in_ok-command.command _ c.in_ok-command.ensures
    (renamed _ _ _ _ _ _ _ _ _ _ _ _ _ _ _ c.shell_program.ensures.shell
    c.shell_program.ensures.variable c.shell_program.ensures.bin c.shell_program.ensures.completer
    c.in_ok-answer_call.ensures)
