use Rattle.std.proofs.Common.{◌∙◌, map, string_bytes, sym}
use Rattle.cc_env.proofs.SafeReplying.{replied_safely}
use Rattle.cc_env.proofs.safe_shell.SafeShellLookupCompleter.write_complete_from.Goals as goal

pub returns-then-asks_safely-clause-reply : goal.returns-then-asks_safely-clause-reply
returns-then-asks_safely-clause-reply g c =
    replied_safely _ _ _ _ _ _ _ _ c.args.self.now.shell _ _ c.args.env.now
    (map string_bytes c.args.words.items) _ _ (sym c.asks_safely.ensures ∙ c.if-asks_safely.true)
    c.reply_format-format.ensures.shell c.reply_format-format.ensures.cursor c.at_last.ensures
    c.reply_at.ensures
