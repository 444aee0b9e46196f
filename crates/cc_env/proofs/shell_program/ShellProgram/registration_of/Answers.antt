use Rattle.std.proofs.Common.{subst, string_bytes, map, sym}
use Rattle.std.specs.Option.{option_copied}
use Rattle.cc_env.proofs.Texts.{registers}
use Rattle.cc_env.specs.Steps.{RegistersAs, made_bytes, program_names}
use Rattle.cc_env.proofs.shell_program.ShellProgram.registration_of.Goals as goal

pub returns-in-Some : goal.returns-in-Some
returns-in-Some g c =
    subst (λ all. RegistersAs (g.E.EnvCompleter.spec c.args.self.now.shell.now)
    (program_names c.args.self.now (option_copied c.args.current_dir)) c.args.command.now (map string_bytes all)
    (made_bytes c.registration.result)) (sym c.in-Some.ensures.cases.0)
    (registers _ (program_names c.args.self.now (option_copied c.args.current_dir)) c.args.command.now _ _
    (map string_bytes c.in-Some.field-0-1.now) _ c.as_str.ensures.value c.registration.ensures.ok c.registration.ensures.memory)
