use Rattle.std.proofs.Common.{◌∙◌, ◌++◌, Some, None, sym, ap, arith}
use Rattle.std.proofs.lemmas.Str.Pattern.{strip_prefix_char}
use Rattle.std.specs.Char.{encode_utf8}
use Rattle.cc_base.specs.Bytes.{single_quote}
use Rattle.cc_quote.proofs.PowershellSigns.{powershell_begins, powershell_begins_right, powershell_begins_none}
use Rattle.cc_quote.proofs.PowershellWords.{encoded}
use Rattle.cc_quote.proofs.powershell.strip_quote.Goals as goal

pub returns-in-Some : goal.returns-in-Some
returns-in-Some c =
    powershell_begins c.args.text.now c.in-Some.rest.now (strip_prefix_char single_quote c.args.text.now (Some c.in-Some.rest) c.in-Some.ensures.cases (omega arith))

pub returns-in_default-strip_prefix : goal.returns-in_default-strip_prefix
returns-in_default-strip_prefix c =
    powershell_begins_none c.args.text.now
    (strip_prefix_char single_quote c.args.text.now None c.in_default.ensures.cases (omega arith))
    (λ rest e. c.in_default-strip_prefix.ensures.cases rest (e ∙ ap (λ bs. bs ++ rest) (sym encoded)))

pub returns : goal.returns
returns c =
    let found = c.in-Some-strip_prefix.ensures.cases in
    let rest = c.in-Some-strip_prefix.rest.now in
    powershell_begins_right c.args.text.now rest (found.1.split ∙ ap (λ bs. encode_utf8 8217 ++ bs) (sym found.2) ∙ ap (λ bs. bs ++ rest) encoded)
