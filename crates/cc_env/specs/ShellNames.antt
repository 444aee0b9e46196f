-- The names of shells.
use Rattle.std.specs.Prelude.{ℕ, Bool, List, ◌||◌, codes}
use Rattle.std.specs.Str.{bytes_eq}

-- PowerShell's names: `powershell` is its own
abbrev pub is_powershell : List ℕ → Bool
is_powershell name =
    bytes_eq name (codes "powershell") || bytes_eq name (codes "pwsh")
    || bytes_eq name (codes "powershell_ise")
