use Rattle.std.proofs.Common.{◌-◌, ◌∙◌, ap, length, map, refl, string_bytes}
use Rattle.std.proofs.lemmas.List.{length-map}
use Rattle.cc_caller.proofs.PromptReply.{refused, replied}
use Rattle.cc_caller.proofs.prompt.PromptEnvCompleter.write_complete.Goals as goal

pub returns-clause-reply : goal.returns-clause-reply
returns-clause-reply g c =
    replied _ _ _ _ _ _ _ _ _ _ (map string_bytes c.args.words.items) _ _ _ _
    (c.last_index-index.ensures ∙ ap (λ items. length (map string_bytes items) - 1) c.deref.ensures.value, refl)
    (length-map c.args.words.items string_bytes) c.in_ok-found.ensures.built c.in_ok-found.ensures.in_range
    c.in_ok-found.ensures.candidates c.as_slice.ensures.value c.write_values.ensures.written c.write_values.ensures.write_only

pub returns-in_err-found-clause-reply : goal.returns-in_err-found-clause-reply
returns-in_err-found-clause-reply g c =
    refused _ _ _ _ _ _ _ _ _ (map string_bytes c.args.words.items) _ _ _ c.from_residual.ensures.1
    (c.last_index-index.ensures ∙ ap (λ items. length (map string_bytes items) - 1) c.deref.ensures.value, refl)
    (length-map c.args.words.items string_bytes) c.in_err-found.ensures.errors
