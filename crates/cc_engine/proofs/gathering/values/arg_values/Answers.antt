use Rattle.std.proofs.Common.{◌∙◌, ap}
use Rattle.cc_engine.specs.Parts.{front, part}
use Rattle.cc_engine.proofs.GatheredValues.{argument_values}
use Rattle.std.proofs.lemmas.Result.{IfOk-weaker}
use Rattle.cc_engine.proofs.gathering.values.arg_values.Goals as goal

pub returns : goal.returns
returns g c =
    IfOk-weaker c.as_values.result _ _
    (λ made is. argument_values _ c.args.argument.now c.args.number c.args.word.now _ _ c.in_ok-found.found.items made.items
    (c.split_at_delimiter.ensures.front ∙ ap (λ delimiter. front delimiter c.args.word.now) c.get_value_delimiter.ensures)
    (c.split_at_delimiter.ensures.part ∙ ap (λ delimiter. part delimiter c.args.word.now) c.get_value_delimiter.ensures)
    c.in_ok-found.ensures is)
    c.as_values.ensures
