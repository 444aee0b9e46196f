-- Examples of the shells to whose programs paths lead.
use Rattle.std.proofs.Common.{◌≡◌, [], None, Some, codes, refl}
use Rattle.std.specs.Path.{path_file_name, path_file_stem, rsplit_once, split_last_component, trim_trailing}
use Rattle.cc_shell.specs.Shells.{shell_of_path}
use Rattle.cc_shell.specs.declared.shell.Shell.TheVariants.{Bash, Nushell, PowerShell}

led :
    (shell_of_path (codes "/bin/bash") ≡ Some Bash)
    × (shell_of_path (codes "/bin/bash/") ≡ Some Bash)
    × (shell_of_path (codes "bash.exe") ≡ Some Bash)
    × (shell_of_path (codes "powershell_ise.exe") ≡ Some PowerShell)
    × (shell_of_path (codes "/usr/bin/nu") ≡ Some Nushell)
unfolding path_file_name path_file_stem rsplit_once split_last_component trim_trailing
led = (refl, refl, refl, refl, refl)

-- a program of no shell, a hidden file, no path, the root, and another case
led_to_none :
    (shell_of_path (codes "/opt/my_custom_shell") ≡ None)
    × (shell_of_path (codes ".bash") ≡ None)
    × (shell_of_path [] ≡ None)
    × (shell_of_path (codes "/") ≡ None)
    × (shell_of_path (codes "BASH") ≡ None)
unfolding path_file_name path_file_stem rsplit_once split_last_component trim_trailing
led_to_none = (refl, refl, refl, refl, refl)
