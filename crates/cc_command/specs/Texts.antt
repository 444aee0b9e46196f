-- The texts of the flags and the child that building adds.
use Rattle.std.specs.Prelude.{⊤, ℕ, List, codes}

-- the name of the child `help`, and the id and the long of the flag `help`
unfoldable pub help_name : List ℕ
help_name = codes "help"

-- the help text of the flag `help`
unfoldable pub help_help : List ℕ
help_help = codes "Print help"

-- the description of the child `help`
unfoldable pub help_about : List ℕ
help_about = codes "Print this message or the help of the given subcommand(s)"

-- the id and the long of the flag that shows the version
unfoldable pub version_name : List ℕ
version_name = codes "version"

-- the help text of the flag `version`
unfoldable pub version_help : List ℕ
version_help = codes "Print version"

-- the name by which a proof unfolds all of them
unfoldable pub fixed_texts : ⊤
unfolding help_name help_help help_about version_name version_help
fixed_texts = tt

-- the short of the flag `help`: `h`
abbrev pub help_short : ℕ
help_short = 104

-- the short of the flag `version`: `V`
abbrev pub version_short : ℕ
version_short = 86

-- the display order of the flags and the child that building adds
abbrev pub last_order : ℕ
last_order = 999
