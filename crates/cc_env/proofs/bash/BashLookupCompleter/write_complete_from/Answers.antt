use Rattle.std.proofs.Common.{ap, refl}
use Rattle.cc_env.proofs.Replying.{replied_named}
use Rattle.cc_replies.specs.Reply.{values_reply}
use Rattle.cc_env.proofs.bash.BashLookupCompleter.write_complete_from.Goals as goal

pub returns-clause-reply : goal.returns-clause-reply
returns-clause-reply g c =
    replied_named _ _ _ _ _ _ _ _ _ _ _ _ _ (ap values_reply c.separator.ensures)
    (c.index.ensures, refl) c.reply_at.ensures
