use Rattle.std.proofs.Common.{◌∙◌, sym, ap, lit<, Some, None}
use Rattle.std.proofs.lemmas.Result.{IfOk-weaker}
use Rattle.std.proofs.lemmas.Str.Pattern.{strip_prefix_char}
use Rattle.cc_base.specs.Bytes.{dash}
use Rattle.cc_engine.specs.declared.gathering.options.OptionMatch.TheVariants.{Listed}
use Rattle.cc_engine.proofs.WordKinds.{match_plain, match_dash, match_short, match_two, match_long}
use Rattle.cc_engine.proofs.gathering.options.match_options.Goals as goal

pub returns-in_default : goal.returns-in_default
returns-in_default c =
    ap Listed (c.from.ensures ∙ c.in_ok-without_dash.ensures)
    ∙ sym (match_plain c.args.arguments.now c.args.word.now (strip_prefix_char dash c.args.word.now None c.in_default.ensures.cases (lit< tt)))

pub returns-then-is_empty : goal.returns-then-is_empty
returns-then-is_empty c =
    let first = strip_prefix_char dash c.args.word.now (Some c.in-Some.rest) c.in-Some.ensures.cases (lit< tt) in
    ap Listed (c.from-then-is_empty.ensures ∙ c.in_ok-shorts_then_longs.ensures)
    ∙ sym (match_dash c.args.arguments.now c.args.word.now c.in-Some.rest.now first (sym c.if-is_empty.ensures))

pub returns-in_default-strip_prefix : goal.returns-in_default-strip_prefix
returns-in_default-strip_prefix c =
    let first = strip_prefix_char dash c.args.word.now (Some c.in-Some.rest) c.in-Some.ensures.cases (lit< tt) in
    let second = strip_prefix_char dash c.in-Some.rest.now None c.in_default-strip_prefix.ensures.cases (lit< tt) in
    IfOk-weaker c.short_options.result _ _
    (λ matched e. e ∙ sym (match_short c.args.arguments.now c.args.word.now c.in-Some.rest.now first (sym c.if-is_empty.ensures) second))
    c.short_options.ensures

pub returns-then-is_empty-2 : goal.returns-then-is_empty-2
returns-then-is_empty-2 c =
    let first = strip_prefix_char dash c.args.word.now (Some c.in-Some.rest) c.in-Some.ensures.cases (lit< tt) in
    let second = strip_prefix_char dash c.in-Some.rest.now (Some c.in-Some-strip_prefix.long) c.in-Some-strip_prefix.ensures.cases (lit< tt) in
    ap Listed (c.from-then-is_empty-2.ensures ∙ c.in_ok-longs.ensures)
    ∙ sym (match_two c.args.arguments.now c.args.word.now c.in-Some.rest.now c.in-Some-strip_prefix.long.now first second (sym c.if-is_empty-2.ensures))

pub returns : goal.returns
returns c =
    let first = strip_prefix_char dash c.args.word.now (Some c.in-Some.rest) c.in-Some.ensures.cases (lit< tt) in
    let second = strip_prefix_char dash c.in-Some.rest.now (Some c.in-Some-strip_prefix.long) c.in-Some-strip_prefix.ensures.cases (lit< tt) in
    IfOk-weaker c.long_options.result _ _
    (λ matched e. e ∙ sym (match_long c.args.arguments.now c.args.word.now c.in-Some.rest.now c.in-Some-strip_prefix.long.now first second (sym c.if-is_empty-2.ensures)))
    c.long_options.ensures
