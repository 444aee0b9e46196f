use Rattle.std.proofs.Common.{◌∙◌, sym, ap, lit<, Some, None}
use Rattle.std.proofs.lemmas.Result.{IfOk-weaker}
use Rattle.std.proofs.lemmas.Str.Pattern.{split_parts}
use Rattle.cc_base.specs.Bytes.{equals}
use Rattle.cc_engine.specs.declared.gathering.options.OptionMatch.TheVariants.{Listed}
use Rattle.cc_engine.proofs.WordKinds.{long_none, long_some}
use Rattle.cc_engine.proofs.gathering.options.long_options.Goals as goal

pub returns-in_ok-longs_beginning-in-None : goal.returns-in_ok-longs_beginning-in-None
returns-in_ok-longs_beginning-in-None c =
    let none = split_parts equals c.args.long.now None c.in-None.ensures.cases (lit< tt) in
    ap Listed (c.from.ensures ∙ c.in_ok-longs_beginning-in-None.ensures) ∙ sym (long_none c.args.arguments.now c.args.long.now none)

pub returns-in-Some : goal.returns-in-Some
returns-in-Some c =
    let parts = split_parts equals c.args.long.now (Some (c.in-Some.flag, c.in-Some.text)) c.in-Some.ensures.cases (lit< tt) in
    IfOk-weaker c.flag_values.result _ _
    (λ matched e. e ∙ sym (long_some c.args.arguments.now c.args.long.now c.in-Some.flag.now c.in-Some.text.now parts.0 parts.1))
    c.flag_values.ensures
