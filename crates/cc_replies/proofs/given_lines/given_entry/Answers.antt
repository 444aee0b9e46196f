use Rattle.std.specs.Str.{is_utf8}
use Rattle.std.proofs.Common.{true, false, sym, ◌∙◌}
use Rattle.std.proofs.lemmas.Bool.{false_from_ne_true}
use Rattle.std.proofs.lemmas.Str.{IsUtf8-from_is_utf8, is_utf8-from_IsUtf8}
use Rattle.cc_replies.proofs.GivenEntries.{is_given, not_text}
use Rattle.cc_replies.proofs.given_lines.given_entry.Goals as goal

pub returns-in_default : goal.returns-in_default
returns-in_default c =
    let value = c.entry.inside.value.now in
    not_text c.args.entry value c.entry.inside.description.now (sym c.entry.view_is)
    (false_from_ne_true (is_utf8 value) (λ e. c.in_default.ensures.cases.0 (IsUtf8-from_is_utf8 value e)))

pub returns-then-not-is_given_text : goal.returns-then-not-is_given_text
returns-then-not-is_given_text c =
    let value = c.entry.inside.value.now in
    is_given c.args.entry value c.in-Ok.value.now c.entry.inside.description.now false (sym c.entry.view_is) c.in-Ok.ensures.cases.0
    (is_utf8-from_IsUtf8 value c.in-Ok.ensures.cases.1) (sym c.is_given_text.ensures ∙ c.if-not-is_given_text.true)

pub returns : goal.returns
returns c =
    let value = c.entry.inside.value.now in
    is_given c.args.entry value c.in-Ok.value.now c.entry.inside.description.now true (sym c.entry.view_is) c.in-Ok.ensures.cases.0
    (is_utf8-from_IsUtf8 value c.in-Ok.ensures.cases.1) (sym c.is_given_text.ensures ∙ c.if-not-is_given_text.false)
