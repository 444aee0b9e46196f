use Rattle.std.proofs.Common.{take}
use Rattle.std.proofs.lemmas.Result.{IfOk-weaker}
use Rattle.std.specs.String.{string_bytes}
use Rattle.complgen_check.proofs.LineLemmas.{place_parts}
use Rattle.complgen_check.proofs.text_lines.place_text.Goals as goal

pub returns : goal.returns
returns c = IfOk-weaker c.format.result _ _
    (λ text is. place_parts (string_bytes text) c.line_and_column-line.result.0
    c.line_and_column-line.result.1 (take c.args.offset c.args.lines.now) is c.line_and_column-line.ensures.line
    c.line_and_column-line.ensures.column)
    c.format.ensures.ok
