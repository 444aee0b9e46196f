use Rattle.std.proofs.Common.{ap}
use Rattle.cc_env.proofs.Replying.{out_of_memory, replied_named}
use Rattle.cc_replies.specs.Reply.{zsh_reply}
use Rattle.cc_env.proofs.zsh.ZshLookupCompleter.write_complete_from.Goals as goal

pub returns-clause-reply : goal.returns-clause-reply
returns-clause-reply g c =
    replied_named _ _ _ _ _ _ _ _ _ _ _ _ _ (ap zsh_reply c.separator.ensures)
    (c.index-index.ensures, c.in_ok-words.ensures) c.reply_at.ensures

pub returns-in_err-words-clause-reply : goal.returns-in_err-words-clause-reply
returns-in_err-words-clause-reply g c =
    out_of_memory _ _ _ c.args.command.now _ _ _ _ _
    c.from_residual.ensures.1
