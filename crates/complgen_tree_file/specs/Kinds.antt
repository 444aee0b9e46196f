-- The keys of each kind of object.
use Rattle.std.specs.Prelude.{ℕ, List, codes}
use Rattle.complgen_tree_file.specs.ArgumentForm.{argument_keys}
use Rattle.complgen_tree_file.specs.CommandForm.{command_keys}
use Rattle.complgen_tree_file.specs.PossibleValueForm.{value_keys}
use Rattle.complgen_tree_file.specs.declared.kinds.ObjectKind.{ObjectKind}
use Rattle.complgen_tree_file.specs.declared.kinds.ObjectKind.TheVariants.{Argument, Command, PossibleValue}

-- the keys that an object of the kind may have
abbrev pub kind_keys : ObjectKind → List (List ℕ)
kind_keys Command = command_keys
kind_keys Argument = argument_keys
kind_keys PossibleValue = value_keys

-- the key that it needs
abbrev pub needed_key : ObjectKind → List ℕ
needed_key Command = codes "name"
needed_key Argument = codes "id"
needed_key PossibleValue = codes "name"
