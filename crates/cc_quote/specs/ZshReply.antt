-- A value and its help text as zsh's completion splits them at a colon.
use Rattle.std.specs.Prelude.{ℕ, Bool, List, ◌==◌, ◌||◌}
use Rattle.cc_base.specs.Bytes.{backslash, colon}
use Rattle.cc_quote.specs.Escapes.{marked}

-- whether a byte follows a backslash in a value: `\` or `:`
abbrev pub is_reply_value_marked : ℕ → Bool
is_reply_value_marked byte = byte == backslash || byte == colon

-- whether a byte follows a backslash in a help text: `\`
abbrev pub is_reply_help_marked : ℕ → Bool
is_reply_help_marked byte = byte == backslash

-- a value as it is written before a colon
abbrev pub zsh_replied_value : List ℕ → List ℕ
zsh_replied_value value = marked is_reply_value_marked value

-- a help text as it is written after a colon
abbrev pub zsh_replied_help : List ℕ → List ℕ
zsh_replied_help help = marked is_reply_help_marked help
