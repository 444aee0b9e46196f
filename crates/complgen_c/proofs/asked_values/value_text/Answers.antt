use Rattle.std.proofs.lemmas.Result.{IfOk-weaker}
use Rattle.std.specs.String.{string_bytes}
use Rattle.complgen_c.proofs.AskedLemmas.{parts_written}
use Rattle.complgen_c.proofs.asked_values.value_text.Goals as goal

pub returns : goal.returns
returns c = IfOk-weaker c.format.result _ _
    (λ text is. parts_written (string_bytes text) c.as_str-id.result.now c.as_str-text.result.now
    c.args.value.now is c.as_str-id.ensures.text c.as_str-text.ensures.text)
    c.format.ensures.ok
