use Rattle.std.proofs.Common.{◌≡◌, ◌∙◌, ◌++◌, ap, codes, length, rules}
use Rattle.std.proofs.lemmas.Str.{chars_from_encodes}
use Rattle.std.specs.Str.{chars}
use Rattle.std.specs.String.{string_bytes}
use Rattle.complgen_check.proofs.ShownLemmas.{shown_long, shown_short}
use Rattle.complgen_check.proofs.errors.shown.push_shown.Goals as goal

pub returns-then-count-le-MOST_SHOWN : goal.returns-then-count-le-MOST_SHOWN
returns-then-count-le-MOST_SHOWN c =
    let count : c.count.result ≡ length (chars c.args.text.now) = search (rules, chars_from_encodes) in
    c.in_ok-push_first.ensures ∙ shown_short (string_bytes c.args.shown.now) c.args.text.now c.count.result
    count c.if-count-le-MOST_SHOWN.true

pub returns : goal.returns
returns c =
    let count : c.count.result ≡ length (chars c.args.text.now) = search (rules, chars_from_encodes) in
    let pushed : string_bytes c.push_str.new.self
    ≡ string_bytes c.push_first.new.shown ++ codes ".." = search rules in
    pushed ∙ ap (λ shown. shown ++ codes "..") c.in_ok-push_first.ensures
    ∙ shown_long (string_bytes c.args.shown.now) c.args.text.now c.count.result count
    c.if-count-le-MOST_SHOWN.false
