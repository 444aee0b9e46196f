-- The names that the iterators over visible names still have to yield.
use Rattle.std.specs.Prelude.{ℕ, List, ◌++◌}
use Rattle.std.specs.Option.{option_to_list, option_copied}
use Rattle.cc_arg.specs.declared.aliases.ShortAndVisibleAliases.{ShortAndVisibleAliases}
use Rattle.cc_arg.specs.declared.aliases.LongAndVisibleAliases.{LongAndVisibleAliases}

-- the short, unless it was yielded already, then the aliases that are left
abbrev pub shorts_left : ShortAndVisibleAliases → List ℕ
shorts_left names = option_to_list names.short ++ names.visible_aliases.now

-- the long, unless it was yielded already, then the aliases that are left
abbrev pub longs_left : LongAndVisibleAliases → List (List ℕ)
longs_left names = option_to_list (option_copied names.long) ++ names.visible_aliases.now
