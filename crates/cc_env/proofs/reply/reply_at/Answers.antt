use Rattle.std.proofs.Common.{map, refl, string_bytes}
use Rattle.std.proofs.lemmas.List.{length-map}
use Rattle.cc_env.proofs.Replying.{refused, replied}
use Rattle.cc_env.proofs.reply.reply_at.Goals as goal

pub returns : goal.returns
returns g c =
    replied _ _ _ _ _ _ _ _ _ _ (map string_bytes c.args.wanted.words.items) _ _ _ _ (refl, refl)
    (length-map c.args.wanted.words.items string_bytes)
    c.in_ok-found.ensures.built c.in_ok-found.ensures.in_range c.in_ok-found.ensures.candidates
    c.as_slice.ensures.value c.write.ensures.written c.write.ensures.write_only

pub returns-in_err-found : goal.returns-in_err-found
returns-in_err-found g c =
    refused _ _ _ _ _ _ _ _ _ (map string_bytes c.args.wanted.words.items) _ _ _
    c.from_residual.ensures.1 (refl, refl)
    (length-map c.args.wanted.words.items string_bytes)
    c.in_err-found.ensures.errors
