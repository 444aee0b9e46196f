-- The constants of the code are the fixed texts of the registrations. A failed write leaves a
-- beginning of such texts.
use Rattle.std.proofs.Common.{◌≡◌, refl}
use Rattle.std.proofs.lemmas.Grind.{common_steps}
use Rattle.cc_base.specs.Partly.{partly_self, partly_split}
use Rattle.cc_registrations.specs.BashRegistration as bash
use Rattle.cc_registrations.specs.ElvishRegistration as elvish
use Rattle.cc_registrations.specs.FishRegistration as fish
use Rattle.cc_registrations.specs.PowershellRegistration as powershell
use Rattle.cc_registrations.specs.ZshRegistration as zsh
use Rattle.cc_registrations.specs.SafeElvish as safe_elvish
use Rattle.cc_registrations.specs.SafePowershell as safe_powershell
use Rattle.cc_registrations.specs.declared.bash.TheConstants as bash_code
use Rattle.cc_registrations.specs.declared.elvish.TheConstants as elvish_code
use Rattle.cc_registrations.specs.declared.fish.TheConstants as fish_code
use Rattle.cc_registrations.specs.declared.powershell.TheConstants as powershell_code
use Rattle.cc_registrations.specs.declared.zsh.TheConstants as zsh_code
use Rattle.cc_registrations.specs.declared.safe_elvish.TheConstants as safe_elvish_code
use Rattle.cc_registrations.specs.declared.safe_powershell.TheConstants as safe_powershell_code

pub bash_texts :
    (bash_code.FUNCTION_BEGINS.now ≡ bash.function_begins)
    × (bash_code.FUNCTION_HEAD.now ≡ bash.function_head)
    × (bash_code.CALL_BEGINS.now ≡ bash.call_begins)
    × (bash_code.NAME_ENDS.now ≡ bash.name_ends)
    × (bash_code.OTHERWISE.now ≡ bash.otherwise)
    × (bash_code.REGISTRATION_ENDS.now ≡ bash.registration_ends)
unfolding bash.fixed_texts
bash_texts = (refl, refl, refl, refl, refl, refl)

pub ruleset of_bash = (common_steps, partly_split, partly_self, bash_texts)

pub elvish_texts :
    (elvish_code.REGISTRATION_BEGINS.now ≡ elvish.registration_begins)
    × (elvish_code.FUNCTION_HEAD.now ≡ elvish.function_head)
    × (elvish_code.SHELL_SET.now ≡ elvish.shell_set)
    × (elvish_code.REGISTRATION_ENDS.now ≡ elvish.registration_ends)
unfolding elvish.fixed_texts
elvish_texts = (refl, refl, refl, refl)

pub ruleset of_elvish = (common_steps, partly_split, partly_self, elvish_texts)

pub fish_texts :
    (fish_code.REGISTRATION_BEGINS.now ≡ fish.registration_begins)
    × (fish_code.ARGUMENTS_BEGIN.now ≡ fish.arguments_begin)
    × (fish_code.SHELL_SET.now ≡ fish.shell_set)
    × (fish_code.REGISTRATION_ENDS.now ≡ fish.registration_ends)
unfolding fish.fixed_texts
fish_texts = (refl, refl, refl, refl)

pub ruleset of_fish = (common_steps, partly_split, partly_self, fish_texts)

pub powershell_texts :
    (powershell_code.REGISTRATION_BEGINS.now ≡ powershell.registration_begins)
    × (powershell_code.SCRIPT_HEAD.now ≡ powershell.script_head)
    × (powershell_code.ENVIRONMENT.now ≡ powershell.environment)
unfolding powershell.fixed_texts
powershell_texts = (refl, refl, refl)

pub ruleset of_powershell = (common_steps, partly_split, partly_self, powershell_texts)

pub zsh_texts :
    (zsh_code.REGISTRATION_BEGINS.now ≡ zsh.registration_begins)
    × (zsh_code.FUNCTION_BEGINS.now ≡ zsh.function_begins)
    × (zsh_code.FUNCTION_HEAD.now ≡ zsh.function_head)
    × (zsh_code.CALL_BEGINS.now ≡ zsh.call_begins)
    × (zsh_code.NAME_ENDS.now ≡ zsh.name_ends)
    × (zsh_code.REGISTRATION_ENDS.now ≡ zsh.registration_ends)
unfolding zsh.fixed_texts
zsh_texts = (refl, refl, refl, refl, refl, refl)

pub ruleset of_zsh = (common_steps, partly_split, partly_self, zsh_texts)

pub safe_elvish_texts :
    (safe_elvish_code.NAMES_BEGIN.now ≡ safe_elvish.names_begin)
    × (safe_elvish_code.FUNCTION_HEAD.now ≡ safe_elvish.function_head)
    × (safe_elvish_code.CALL_BEGINS.now ≡ safe_elvish.call_begins)
    × (safe_elvish_code.CALL_ENDS.now ≡ safe_elvish.call_ends)
unfolding safe_elvish.fixed_texts
safe_elvish_texts = (refl, refl, refl, refl)

pub ruleset of_safe_elvish = (common_steps, partly_split, partly_self, safe_elvish_texts)

pub safe_powershell_texts :
    (safe_powershell_code.NAMES_BEGIN.now ≡ safe_powershell.names_begin)
    × (safe_powershell_code.SCRIPT_HEAD.now ≡ safe_powershell.script_head)
    × (safe_powershell_code.VARIABLE_KEPT.now ≡ safe_powershell.variable_kept)
    × (safe_powershell_code.CALL_BEGINS.now ≡ safe_powershell.call_begins)
    × (safe_powershell_code.CALL_ENDS.now ≡ safe_powershell.call_ends)
    × (safe_powershell_code.SCRIPT_ENDS.now ≡ safe_powershell.script_ends)
unfolding safe_powershell.fixed_texts
safe_powershell_texts = (refl, refl, refl, refl, refl, refl)

pub ruleset of_safe_powershell = (common_steps, partly_split, partly_self, safe_powershell_texts)
