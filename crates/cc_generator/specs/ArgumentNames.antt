-- The shorts and the longs of a command's arguments.
use Rattle.std.specs.Prelude.{ℕ, List, [], ◌∷◌, ◌++◌, Option, Some, None, codes, encode_utf8}
use Rattle.std.specs.List.{flat_map}
use Rattle.cc_arg.specs.declared.parts.ArgParts.{ArgParts as Arg}

-- a short and a long as a user types them
abbrev pub short_word : ℕ → List ℕ
short_word short = codes "-" ++ encode_utf8 short

abbrev pub long_word : List ℕ → List ℕ
long_word long = codes "--" ++ long

-- the aliases, then the first name; nothing if there is no first name
abbrev pub aliases_then : {A : Type 0} → List A → Option A → List A
aliases_then aliases None = []
aliases_then aliases (Some first) = aliases ++ first ∷ []

-- for each argument with a short its visible aliases, then the short
unfoldable pub all_shorts : List Arg → List ℕ
all_shorts arguments =
    flat_map (λ argument. aliases_then argument.visible_short_aliases argument.short) arguments

-- for each argument with a long its visible aliases, then the long
unfoldable pub all_longs : List Arg → List (List ℕ)
all_longs arguments =
    flat_map (λ argument. aliases_then argument.visible_aliases argument.long) arguments
