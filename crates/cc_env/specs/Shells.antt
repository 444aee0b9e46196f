-- The shells that a caller offers.
use Rattle.std.specs.Prelude.{ℕ, List, map}
use Rattle.cc_env.specs.Builtins.{CompleterSpec}
use Rattle.cc_env.specs.declared.shells.ShellNames.{ShellNames}

-- the names that are left, by the name of each
abbrev pub names_left : {C : Type 0} → (C → CompleterSpec) → ShellNames C → List (List ℕ)
names_left spec names = map (λ shell. (spec shell).name) names.shells.now
