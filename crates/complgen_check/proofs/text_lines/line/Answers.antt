use Rattle.std.proofs.Common.{◌∙◌}
use Rattle.std.proofs.lemmas.Result.{IfOk-weaker}
use Rattle.std.specs.String.{string_bytes}
use Rattle.complgen_check.proofs.LineLemmas.{line_parts}
use Rattle.complgen_check.proofs.text_lines.line.Goals as goal

pub returns : goal.returns
returns c = IfOk-weaker c.format.result _ _
    (λ line is. line_parts (string_bytes line) c.as_str-place.result.now
    c.level_text-level.result.now c.as_str-path.result.now c.as_str-text.result.now
    c.args.lines.now c.args.finding.now is
    (c.as_str-place.ensures.value ∙ c.in_ok-place.ensures)
    c.level_text-level.ensures c.as_str-path.ensures.value c.as_str-text.ensures.value)
    c.format.ensures.ok
