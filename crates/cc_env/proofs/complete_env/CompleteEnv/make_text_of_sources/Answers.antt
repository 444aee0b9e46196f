use Rattle.std.proofs.Common.{ap, inl, map, string_bytes}
use Rattle.std.proofs.lemmas.Result.{err_from_is_err_and}
use Rattle.cc_env.proofs.Texts.{text_named, text_without_command}
use Rattle.cc_env.proofs.complete_env.CompleteEnv.make_text_of_sources.Goals as goal

pub returns-in_err-made : goal.returns-in_err-made
returns-in_err-made g c =
    let p = err_from_is_err_and c.from_residual.result c.from_residual.ensures.1 in
    rw (p.1, p.2) (text_without_command _ _ _ _ _ _ _ (inl c.in_err-made.ensures))

pub returns : goal.returns
returns g c =
    text_named _ g.E.EnvCompleter.spec _ _ c.shell_program-program.result _ _ _ _ _ _ _ _ _ c.shell_program-program.ensures.shell c.shell_program-program.ensures.variable
    c.shell_program-program.ensures.bin c.shell_program-program.ensures.completer (ap (map string_bytes) c.as_slice.ensures.value)
    c.in_ok-made.ensures c.text_of_sources.ensures
