use Rattle.std.proofs.Common.{◌==◌, ap, ℕ, inr, refl, subst, string_bytes, map, sym, ◌∙◌, List, Option}
use Rattle.std.proofs.lemmas.Result.{err_from_is_err_and}
use Rattle.cc_env.proofs.Texts.{text_registered, text_replied, text_without_command}
use Rattle.cc_env.specs.Steps.{RegistersAs, made_bytes, program_names}
use Rattle.cc_env.proofs.shell_program.ShellProgram.text_over.Goals as goal

pub returns-in_err-build : goal.returns-in_err-build
returns-in_err-build g c =
    let p = err_from_is_err_and c.from_residual.result c.from_residual.ensures.1 in
    rw (p.1, p.2) (text_without_command _ _ _ _ _ _ _ (inr c.in_err-build.ensures.memory))

pub returns-in_err-words : goal.returns-in_err-words
returns-in_err-words g c =
    let p = err_from_is_err_and c.from_residual-in_err-words.result c.from_residual-in_err-words.ensures.1 in
    rw (p.1, p.2) (text_without_command _ _ _ _ _ _ _ (inr refl))

pub returns-then-is_empty : goal.returns-then-is_empty
returns-then-is_empty g c =
    text_registered _ _ _ _ _ string_bytes c.in_ok-words.words.items c.args.command.now _ (map string_bytes c.args.args.now)
    (made_bytes c.registration_of.result) refl c.in_ok-build.ensures.ok c.in_ok-words.ensures
    (ap (λ n. n == 0) (sym c.in_ok-words.words.ok.0) ∙ sym c.is_empty.ensures ∙ c.if-is_empty.true)
    (subst (λ (current : Option (List ℕ)). RegistersAs (g.E.EnvCompleter.spec c.args.self.now.shell.now)
    (program_names c.args.self.now current) c.build.new.self (map string_bytes c.args.args.now)
    (made_bytes c.registration_of.result)) c.current_dir.ensures c.registration_of.ensures)

pub returns : goal.returns
returns g c =
    text_replied _ _ _ _ _ string_bytes c.in_ok-words.words.items c.args.command.now _ _ (map string_bytes c.args.args.now)
    (made_bytes c.reply.result) refl c.in_ok-build.ensures.ok c.in_ok-build.ensures.whole c.in_ok-words.ensures
    (ap (λ n. n == 0) (sym c.in_ok-words.words.ok.0) ∙ sym c.is_empty.ensures ∙ c.if-is_empty.false) c.reply.ensures.built c.reply.ensures.replied
