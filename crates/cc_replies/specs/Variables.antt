-- Environment variables.
use Rattle.std.specs.Prelude.{ℕ, List, Contains}
use Rattle.std.specs.List.{AllByRecursion}
use Rattle.std.specs.String.{string_bytes}
use Rattle.cc_replies.specs.declared.environment.EnvValues.{EnvValues}

-- each of the variables has one of these names
abbrev pub AreNamed : List (List ℕ) → EnvValues → Type 0
AreNamed names values =
    AllByRecursion (λ variable. Contains names (string_bytes variable.0)) values.variables
