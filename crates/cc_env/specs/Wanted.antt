-- The shell that the environment requests, by the value of a variable.
use Rattle.std.specs.Prelude.{find, ◌≡◌, ◌⊎◌, ℕ, Bool, List, ◌++◌, Option, Some, None, map, codes, unwrap_or, if◌then◌else◌}
use Rattle.std.specs.Path.{path_file_stem}
use Rattle.cc_base.specs.Joined.{joined}
use Rattle.cc_base.specs.declared.error.Error.{Error}
use Rattle.cc_base.specs.declared.error.Error.TheVariants.{Memory, UnknownShell}
use Rattle.cc_replies.specs.Requests.{wants_nothing}

-- the name of a shell in a value: the last piece of a path without its extension; the whole value
-- if it has no such piece
abbrev pub shell_name : List ℕ → List ℕ
shell_name value = unwrap_or (path_file_stem value) value

-- the name of the shell that is requested, if one is
abbrev pub wanted_name : Option (List ℕ) → Option (List ℕ)
wanted_name None = None
wanted_name (Some value) = if wants_nothing value then None else Some (shell_name value)

-- nothing; a name that no shell has; or a shell
pub data Wanted (C : Type 0) : Type 0 where
  nothing : Wanted C
  unknown : List ℕ → Wanted C
  known : C → Wanted C

-- the first shell that has the name counts
abbrev pub wanted_of : {C : Type 0} → (C → List ℕ → Bool) → List C → Option (List ℕ) → Wanted C
wanted_of named shells None = nothing
wanted_of named shells (Some name) = elim (find (λ shell. named shell name) shells) [
  | Some shell ↦ known shell
  | None ↦ unknown name
]

-- ---- a name that no shell has

-- a name between backquotes
abbrev pub quoted_name : List ℕ → List ℕ
quoted_name name = codes "`" ++ name ++ codes "`"

-- the message that no shell has this name, with the names of the known shells
abbrev pub unknown_shell : List (List ℕ) → List ℕ → List ℕ
unknown_shell names name =
    codes "unknown shell `" ++ name ++ codes "`, expected one of "
    ++ joined (codes ", ") (map quoted_name names)

-- the error is `UnknownShell` with that message, or out of memory
abbrev pub IsUnknownShell : List (List ℕ) → List ℕ → Error → Type 0
IsUnknownShell names name error =
    (error ≡ UnknownShell (unknown_shell names name)) ⊎ (error ≡ Memory)
