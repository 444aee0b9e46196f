-- The form of a possible value in a tree file: what each of its keys sets.
use Rattle.std.specs.Prelude.{◌&&◌, ℕ, List, [], ◌∷◌, Bool, true, Option, Some, None}
use Rattle.std.specs.Prelude.{if◌then◌else◌, codes}
use Rattle.std.specs.Option.{option_map_or}
use Rattle.serde_json.specs.Data.{Data}
use Rattle.serde_json.specs.Find.{as_bool, as_str, get}
use Rattle.cc_arg.specs.PossibleValues.{new_possible_value}
use Rattle.cc_arg.specs.declared.possible_value.PossibleValue.{PossibleValue}
use Rattle.complgen_tree_file.specs.TreeForm.{◌>>=◌, fits_at, is_object_of, text_at}

-- the keys that a possible value may have
unfoldable pub value_keys : List (List ℕ)
value_keys = codes "name" ∷ codes "help" ∷ codes "hide" ∷ []

-- the name of a possible value
abbrev pub name_in : Data → List ℕ
name_in = text_at (codes "name")

-- whether a value is an object with no other keys and with a name, and `before` holds
abbrev pub name_fits : Data → Bool → Bool
name_fits = is_object_of value_keys (codes "name")

-- a possible value with the help text at its key, if it is there
abbrev pub with_help : Data → PossibleValue → PossibleValue
with_help d value = option_map_or (λ help. record value { help = Some help })
    (get (codes "help") d >>= as_str) value

abbrev pub with_hide : Data → PossibleValue → PossibleValue
with_hide d value = option_map_or (λ hide. record value { hide = hide })
    (get (codes "hide") d >>= as_bool) value

-- the possible value that an object describes, if it fits
abbrev pub value_in : Data → PossibleValue
value_in d = with_hide d (with_help d (new_possible_value (name_in d)))

-- whether a value describes a possible value, and `before` holds
abbrev pub value_fits : Data → Bool → Bool
value_fits d before =
    (name_fits d before && fits_at (codes "help") as_str d) && fits_at (codes "hide") as_bool d

-- the possible value that a value describes
abbrev pub possible_value_of : Data → Option PossibleValue
possible_value_of d = if value_fits d true then Some (value_in d) else None
