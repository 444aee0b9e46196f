-- The visible names of an argument.
use Rattle.std.specs.Prelude.{ℕ, List, [], ◌∷◌, ◌++◌, map, Option, Some, None}
use Rattle.cc_arg.specs.declared.parts.ArgParts.{ArgParts as Arg}
use Rattle.cc_arg.specs.declared.names.ShownName.{ShownName}
use Rattle.cc_arg.specs.declared.names.ShownName.TheVariants.{Short, Long}
use Rattle.cc_arg.specs.declared.names.ShownNames.{ShownNames}
use Rattle.cc_arg.specs.Aliases.{shorts_left, longs_left}

-- a name and its visible aliases; without the name, the aliases are not shown either
abbrev pub with_aliases : {Name : Type 0} → Option Name → List Name → List Name
with_aliases None aliases = []
with_aliases (Some name) aliases = name ∷ aliases

-- the short, then its visible aliases; nothing if there is no short
abbrev pub shown_shorts : Arg → List ℕ
shown_shorts argument = with_aliases argument.short argument.visible_short_aliases

-- the long, then its visible aliases; nothing if there is no long
abbrev pub shown_longs : Arg → List (List ℕ)
shown_longs argument = with_aliases argument.long argument.visible_aliases

-- the visible shorts, then the visible longs
abbrev pub shown_names : Arg → List ShownName
shown_names argument = map Short (shown_shorts argument) ++ map Long (shown_longs argument)

-- the names that the iterator over visible names still has to yield
abbrev pub names_left : ShownNames → List ShownName
names_left names = map Short (shorts_left names.shorts) ++ map Long (longs_left names.longs)
