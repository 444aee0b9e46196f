use Rattle.std.proofs.Common.{rules}
use Rattle.std.proofs.lemmas.Fn.{filter_same}
use Rattle.cc_replies.proofs.cobra_reply.without_active_help.Goals as goal

pub returns : goal.returns
returns c = filter_same _ _ _ (λ x b f k. search rules) _ _ c.retain.ensures.filtered
