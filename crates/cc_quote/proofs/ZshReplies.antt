-- The reading of a value and of a help text in a reply for zsh.
use Rattle.std.proofs.Common.{◌≡◌, ℕ, List, Some, refl}
use Rattle.cc_quote.specs.ZshQuote.{zsh_unescaped}
use Rattle.cc_quote.specs.ZshReply.{is_reply_value_marked, is_reply_help_marked, zsh_replied_value, zsh_replied_help}
use Rattle.cc_quote.proofs.ZshWords.{marked_unescaped}

pub value_unescaped : (value : List ℕ) → zsh_unescaped (zsh_replied_value value) ≡ Some value
value_unescaped value = marked_unescaped is_reply_value_marked refl value

pub help_unescaped : (help : List ℕ) → zsh_unescaped (zsh_replied_help help) ≡ Some help
help_unescaped help = marked_unescaped is_reply_help_marked refl help
