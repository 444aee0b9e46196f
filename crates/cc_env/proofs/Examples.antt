-- The requests of some values of a variable and of some arguments.
use Rattle.std.proofs.Common.{◌≡◌, ℕ, List, [], ◌∷◌, Some, None, codes, map, refl}
use Rattle.std.specs.Path.{path_file_stem, path_file_name, path_join, rsplit_once, split_last_component, trim_trailing}
use Rattle.std.specs.Prelude.{bytes_eq}
use Rattle.cc_env.specs.Arguments.{after_dashes, program_path}
use Rattle.cc_env.specs.Wanted.{wanted_name, wanted_of, known, unknown, unknown_shell}
use Rattle.cc_env.specs.Steps.{completer_path}

wanted_names :
    -- no value, the empty one and `0`
    (map wanted_name (None ∷ Some [] ∷ Some (codes "0") ∷ []) ≡ None ∷ None ∷ None ∷ [])
    -- the last piece of a path without its extension; a value without a last piece counts as it is
    × (map (λ value. wanted_name (Some value)) (codes "/usr/bin/fish" ∷ codes "/bin/tcsh"
    ∷ codes "/usr/bin/pwsh" ∷ codes "powershell.exe" ∷ codes "powershell_ise.exe" ∷ codes "/bin/.." ∷ [])
    ≡ map Some (codes "fish" ∷ codes "tcsh" ∷ codes "pwsh"
    ∷ codes "powershell" ∷ codes "powershell_ise" ∷ codes "/bin/.." ∷ []))
unfolding path_file_stem path_file_name rsplit_once split_last_component trim_trailing
wanted_names = (refl, refl)

abbrev five_names : List (List ℕ)
five_names = codes "bash" ∷ codes "elvish" ∷ codes "fish" ∷ codes "powershell" ∷ codes "zsh" ∷ []

shells :
    (wanted_of bytes_eq five_names (Some (codes "tcsh")) ≡ unknown (codes "tcsh"))
    × (wanted_of bytes_eq five_names (Some (codes "fish")) ≡ known (codes "fish"))
    × (unknown_shell five_names (codes "tcsh")
    ≡ codes "unknown shell `tcsh`, expected one of `bash`, `elvish`, `fish`, `powershell`, `zsh`")
shells = (refl, refl, refl)

-- ---- the arguments

words :
    (after_dashes (codes "--" ∷ codes "app" ∷ codes "--" ∷ []) ≡ codes "app" ∷ codes "--" ∷ [])
    × (after_dashes (codes "fish" ∷ []) ≡ [])
    -- a path through a folder is joined to the current folder; a name alone, with a slash at its end or
    -- not, and an absolute path stay
    × (map (program_path (Some (codes "/w"))) (codes "./app" ∷ codes "app" ∷ codes "app/" ∷ codes "/bin/app" ∷ [])
    ≡ codes "/w/./app" ∷ codes "app" ∷ codes "app/" ∷ codes "/bin/app" ∷ [])
    × (completer_path (Some (codes "my")) (Some (codes "/w")) (codes "./app") ≡ codes "my")
unfolding path_join trim_trailing
words = (refl, refl, refl, refl)
