use Rattle.std.proofs.Common.{◌∙◌, sym, lit<, None}
use Rattle.std.specs.String.{string_bytes}
use Rattle.std.proofs.lemmas.Str.Pattern.{strip_prefix_char}
use Rattle.cc_base.specs.Bytes.{equals}
use Rattle.cc_engine.proofs.WordKinds.{wanted_plain}
use Rattle.cc_engine.proofs.gathering.options.value_query_after.Goals as goal

pub returns-in_default : goal.returns-in_default
returns-in_default c =
    (λ i. record { argument = c.new.ensures i; before = c.from.ensures i; text = c.new-in_default.ensures i })
    ∙ sym (wanted_plain c.args.argument.now (string_bytes c.args.before) c.args.rest.now (strip_prefix_char equals c.args.rest.now None c.in_default.ensures.cases (lit< tt)))
