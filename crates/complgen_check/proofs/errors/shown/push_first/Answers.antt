use Rattle.std.proofs.Common.{◌≡◌, ◌∙◌, ◌++◌, ap, encode_utf8, encode_utf8_all, map, rules, sym}
use Rattle.std.proofs.lemmas.Iterator.{YieldsList-from_chars, YieldsList-from_take}
use Rattle.std.proofs.lemmas.Iterator.Consumers.{YieldsList-end}
use Rattle.std.proofs.lemmas.List.{map-id}
use Rattle.std.specs.String.{string_bytes}
use Rattle.cc_base.specs.Shown.{visible}
use Rattle.complgen_check.proofs.ShownLemmas.{shown_more}
use Rattle.complgen_check.proofs.errors.shown.push_first.Goals as goal

pub loop-character-preserved : goal.loop-character-preserved
loop-character-preserved c =
    let before = string_bytes c.args.shown.now in
    let pushed : string_bytes c.push.new.self
    ≡ string_bytes c.loop-character.shown ++ encode_utf8 c.visible.result = search rules in
    pushed ∙ ap (λ shown. shown ++ encode_utf8 c.visible.result) c.loop-character.invariant
    ∙ ap (λ shown. (before ++ encode_utf8_all (map visible c.loop-character.yielded)) ++ encode_utf8 shown)
    c.visible.ensures.shown
    ∙ shown_more before c.loop-character.yielded c.in-Some.character

pub returns : goal.returns
returns c =
    let all = YieldsList-end (YieldsList-from_take 60
    (YieldsList-from_chars c.args.text.now c.utf8.text (cc)) (cc)) c.loop-character.yielded _
    c.loop-character.yielded_by _ _ c.in-None.is c.next.ensures.steps in
    c.loop-character.invariant
    ∙ ap (λ shown. string_bytes c.args.shown.now ++ encode_utf8_all (map visible shown))
    (sym (map-id c.loop-character.yielded) ∙ all.0)
