use Rattle.std.proofs.Common.{◌∙◌, ◌≡◌, [], List, Option, ap, inl, map, string_bytes, subst, sym}
use Rattle.std.proofs.lemmas.Result.{IfErr-weaker, IfOk-weaker}
use Rattle.clap.specs.Kinds.{HasKind, Kinds}
use Rattle.clap.specs.Words.{App, Row, Text, fault_of, is_simple, is_simple_and_free, subcommand_of}
use Rattle.clap.specs.Words.{takes}
use Rattle.complgen_command_line.specs.CommandLine.{program_line}
use Rattle.complgen_command_line.specs.Plans.{AsksFor, EntersOne}
use Rattle.complgen_command_line.specs.Refusals.{Reports}
use Rattle.complgen_command_line.proofs.CommandLineLemmas.{enters_one, program_line_is_free}
use Rattle.complgen_command_line.proofs.CommandLineLemmas.{program_line_is_simple, reports_memory}
use Rattle.complgen_command_line.proofs.CommandLineLemmas.{reports_words}
use Rattle.complgen_command_line.proofs.words.plan.Goals as goal

pub plan_of-planned-requires : goal.plan_of-planned-requires
plan_of-planned-requires c =
    let words = map string_bytes c.args.words.now in
    let line = c.in_ok-command.ensures in
    let none = subst (λ (a : App). fault_of a words ≡ []) line
    (c.in-Ok.ensures.kinds (ap is_simple_and_free line ∙ program_line_is_free)) in
    let entered = (c.in-Ok.ensures.matches (ap is_simple line ∙ program_line_is_simple)).1
    ∙ ap (λ (a : App). subcommand_of a words) line in
    subst EntersOne (sym entered) (enters_one words none)

pub returns-in-Ok-clause-ok : goal.returns-in-Ok-clause-ok
returns-in-Ok-clause-ok c =
    let words = map string_bytes c.args.words.now in
    let line = c.in_ok-command.ensures in
    let entered = (c.in-Ok.ensures.matches (ap is_simple line ∙ program_line_is_simple)).1
    ∙ ap (λ (a : App). subcommand_of a words) line in
    IfOk-weaker c.plan_of-planned.result _ _ (λ plan asks.
    subst (λ (e : Option (Text × List Row)). AsksFor e plan) entered asks)
    c.plan_of-planned.ensures.ok

pub returns-in-Ok-clause-fits : goal.returns-in-Ok-clause-fits
returns-in-Ok-clause-fits c =
    let words = map string_bytes c.args.words.now in
    let line = c.in_ok-command.ensures in
    IfOk-weaker c.plan_of-planned.result _ _ (λ plan asks.
    subst (λ (a : App). fault_of a words ≡ []) line
    (c.in-Ok.ensures.kinds (ap is_simple_and_free line ∙ program_line_is_free)))
    c.plan_of-planned.ensures.ok

pub returns-in-Ok-clause-taken : goal.returns-in-Ok-clause-taken
returns-in-Ok-clause-taken c =
    let words = map string_bytes c.args.words.now in
    let line = c.in_ok-command.ensures in
    let entered = (c.in-Ok.ensures.matches (ap is_simple line ∙ program_line_is_simple)).1
    ∙ ap (λ (a : App). subcommand_of a words) line in
    IfErr-weaker c.plan_of-planned.result _ _ (λ refusal reports. λ taken.
    subst (λ (e : Option (Text × List Row)). Reports [] e refusal) entered reports)
    c.plan_of-planned.ensures.err

pub returns-in-Ok-clause-err : goal.returns-in-Ok-clause-err
returns-in-Ok-clause-err c =
    let words = map string_bytes c.args.words.now in
    let line = c.in_ok-command.ensures in
    let none = subst (λ (a : App). fault_of a words ≡ []) line
    (c.in-Ok.ensures.kinds (ap is_simple_and_free line ∙ program_line_is_free)) in
    let entered = (c.in-Ok.ensures.matches (ap is_simple line ∙ program_line_is_simple)).1
    ∙ ap (λ (a : App). subcommand_of a words) line in
    IfErr-weaker c.plan_of-planned.result _ _ (λ refusal reports.
    subst (λ (kinds : Kinds). Reports kinds (subcommand_of program_line words) refusal) (sym none)
    (subst (λ (e : Option (Text × List Row)). Reports [] e refusal) entered reports))
    c.plan_of-planned.ensures.err

pub returns-in-Err-clause-taken : goal.returns-in-Err-clause-taken
returns-in-Err-clause-taken c = λ taken.
    let words = map string_bytes c.args.words.now in
    inl (reports_memory _ c.refusal_of.result
    (c.in-Err.ensures.passes (ap (λ (a : App). takes a words) c.in_ok-command.ensures ∙ taken))
    c.refusal_of.ensures)

pub returns-in-Err-clause-err : goal.returns-in-Err-clause-err
returns-in-Err-clause-err c =
    let words = map string_bytes c.args.words.now in
    let line = c.in_ok-command.ensures in
    let fails = c.in-Err.ensures.kinds (ap is_simple_and_free line ∙ program_line_is_free) in
    reports_words (fault_of program_line words) (subcommand_of program_line words) c.in-Err.error _
    (subst (λ (a : App). HasKind (fault_of a words) c.in-Err.error) line fails)
    c.refusal_of.ensures
