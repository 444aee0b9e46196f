use Rattle.std.proofs.lemmas.Bool.{false_from_ne_true}
use Rattle.std.proofs.lemmas.Str.{IsUtf8-from_is_utf8, is_utf8-from_IsUtf8}
use Rattle.std.specs.Str.{is_utf8}
use Rattle.std.specs.String.{string_bytes}
use Rattle.std.proofs.Common.{rules}
use Rattle.cc_replies.proofs.GivenEntries.{help_none, help_some}
use Rattle.cc_replies.proofs.given_lines.description_help.Goals as goal

pub returns-in_default : goal.returns-in_default
returns-in_default c =
    let bytes = c.args.description.now in
    help_none bytes (false_from_ne_true (is_utf8 bytes) (λ e. c.in_default.ensures.cases.0 (IsUtf8-from_is_utf8 bytes e)))

pub returns : goal.returns
returns c =
    help_some c.args.description.now c.in-Ok.description.now (string_bytes c.in_ok-help.help)
    (is_utf8-from_IsUtf8 c.args.description.now c.in-Ok.ensures.cases.1) c.in-Ok.ensures.cases.0 c.in_ok-help.ensures (search rules)
