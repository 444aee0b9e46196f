-- The keys as a tree file spells them.
use Rattle.std.specs.Prelude.{ℕ, List, codes}
use Rattle.complgen_lints.specs.declared.place.Key.{Key}
use Rattle.complgen_lints.specs.declared.place.Key.TheVariants.{Name, BinName, About, Aliases, VisibleAliases, Hide, Id, Short, Long, ShortAliases, VisibleShortAliases, Help, Action, NumArgs, ValueNames, PossibleValues, ValueHint, ValuesFrom, ValuesFile, ValuesSplit, ValuesWords, ValuesProtocol, Index, ConflictsWith}

-- a key as a tree file spells it
abbrev pub key_text : Key → List ℕ
key_text Name = codes "name"
key_text BinName = codes "bin_name"
key_text About = codes "about"
key_text Aliases = codes "aliases"
key_text VisibleAliases = codes "visible_aliases"
key_text Hide = codes "hide"
key_text Id = codes "id"
key_text Short = codes "short"
key_text Long = codes "long"
key_text ShortAliases = codes "short_aliases"
key_text VisibleShortAliases = codes "visible_short_aliases"
key_text Help = codes "help"
key_text Action = codes "action"
key_text NumArgs = codes "num_args"
key_text ValueNames = codes "value_names"
key_text PossibleValues = codes "possible_values"
key_text ValueHint = codes "value_hint"
key_text ValuesFrom = codes "values_from"
key_text ValuesFile = codes "values_file"
key_text ValuesSplit = codes "values_split"
key_text ValuesWords = codes "values_words"
key_text ValuesProtocol = codes "values_protocol"
key_text Index = codes "index"
key_text ConflictsWith = codes "conflicts_with"
