-- The shells: their names, their programs, and the scripts that are written for them.
use Rattle.std.specs.Prelude.{◌≡◌, ◌++◌, ℕ, List, [], ◌∷◌, Option, Result, Ok, IfOk, codes, find}
use Rattle.std.specs.List.{list_any}
use Rattle.std.specs.Option.{option_and_then}
use Rattle.std.specs.Path.{path_file_stem}
use Rattle.std.specs.Str.{bytes_eq}
use Rattle.cc_bash.specs.Reads.{bash_spec}
use Rattle.cc_fish.specs.Reads.{fish_spec}
use Rattle.cc_generator.specs.Generators.{ShellSpec}
use Rattle.cc_shell.specs.declared.shell.InvalidShell.{InvalidShell}
use Rattle.cc_shell.specs.declared.shell.Shell.{Shell}
use Rattle.cc_shell.specs.declared.shell.Shell.TheVariants.{Bash, Elvish, Fish, PowerShell, Zsh, Nushell}
use Rattle.cc_tables.specs.ElvishReader.{elvish_spec}
use Rattle.cc_tables.specs.NushellReader.{nushell_spec}
use Rattle.cc_tables.specs.PowershellReader.{powershell_spec}
use Rattle.cc_zsh.specs.Reads.{zsh_spec}

-- all shells, in order
abbrev pub all_shells : List Shell
all_shells = Bash ∷ Elvish ∷ Fish ∷ PowerShell ∷ Zsh ∷ Nushell ∷ []

-- the specification of the scripts for a shell
abbrev pub shell_spec : Shell → ShellSpec
shell_spec Bash = bash_spec
shell_spec Elvish = elvish_spec
shell_spec Fish = fish_spec
shell_spec PowerShell = powershell_spec
shell_spec Zsh = zsh_spec
shell_spec Nushell = nushell_spec

-- the name of a shell
abbrev pub shell_text : Shell → List ℕ
shell_text Bash = codes "bash"
shell_text Elvish = codes "elvish"
shell_text Fish = codes "fish"
shell_text PowerShell = codes "powershell"
shell_text Zsh = codes "zsh"
shell_text Nushell = codes "nushell"

-- the names of a shell's programs
abbrev pub programs : Shell → List (List ℕ)
programs PowerShell = codes "powershell" ∷ codes "pwsh" ∷ codes "powershell_ise" ∷ []
programs Nushell = codes "nu" ∷ []
programs shell = shell_text shell ∷ []

-- the shell that has a program with the given name
abbrev pub shell_of_program : List ℕ → Option Shell
shell_of_program name = find (λ shell. list_any (bytes_eq name) (programs shell)) all_shells

-- the shell to whose program a path leads: by the last name of the path, without its extension
abbrev pub shell_of_path : List ℕ → Option Shell
shell_of_path path = option_and_then shell_of_program (path_file_stem path)

-- The text that a shell prints is read as that shell, and no other text is read.
pub record ReadsShell (text : List ℕ) (result : Result Shell InvalidShell) : Type 0 where
  pub printed : (shell : Shell) → text ≡ shell_text shell → result ≡ Ok shell
  pub only : IfOk result (λ shell. text ≡ shell_text shell)

-- the message that no shell has the given name
abbrev pub invalid_variant : List ℕ → List ℕ
invalid_variant text = codes "invalid variant: " ++ text
