use Rattle.cc_env.proofs.Replying.{replied_as_wanted}
use Rattle.cc_env.proofs.fish.FishLookupCompleter.write_complete_from.Goals as goal

pub returns-clause-reply : goal.returns-clause-reply
returns-clause-reply g c =
    replied_as_wanted _ _ _ _ _ _ _ _ _ _ _ _ c.at_last.ensures c.reply_at.ensures
