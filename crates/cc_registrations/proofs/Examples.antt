-- Examples of how registrations are read.
use Rattle.std.proofs.Common.{◌≡◌, true, false, Some, refl, codes}
use Rattle.cc_quote.specs.PosixQuote.{posix_word_from, posix_word_of, is_posix_safe, is_posix_safe_word, posix_quoted}
use Rattle.cc_quote.specs.PosixSigns.{sign, byte_of}
use Rattle.cc_base.specs.Found.{after, with_front, cut_at, up_to, after_mark, between, without_blanks, after_last_from, last_line, last_run, word_by, word_after, ended, words_from, before_last}
use Rattle.cc_quote.specs.PlainPath.{is_path_byte, is_plain_path}
use Rattle.cc_quote.specs.FishQuote.{is_fish_safe, fish_sign, fish_quoted, fish_quoted_for_eval}
use Rattle.cc_registrations.specs.FishRegistration as fish
use Rattle.cc_registrations.specs.FishRegistration.{FishRegistrationReads}
use Rattle.cc_quote.specs.PowershellQuote.{sign_before, powershell_signs}
use Rattle.cc_quote.specs.Signs.{sign as quoting_sign}
use Rattle.cc_registrations.specs.ElvishRegistration as elvish
use Rattle.cc_registrations.specs.ElvishRegistration.{ElvishRegistrationReads}
use Rattle.cc_registrations.specs.PowershellRegistration as powershell
use Rattle.cc_registrations.specs.PowershellRegistration.{PowershellRegistrationReads}
use Rattle.cc_registrations.specs.ZshRegistration as zsh
use Rattle.cc_registrations.specs.ZshRegistration.{ZshRegistrationReads}
use Rattle.cc_registrations.specs.BashRegistration.{function_begins, function_head, call_begins, call_ends, name_ends, otherwise, registration_ends, registration_front, sorted_call, plain_call, registration_tail, bash_registration, variable_ends, bash_variable, bash_completer, bash_name, bash_binary, BashRegistrationReads}

bash_row : BashRegistrationReads (codes "V") (codes "VAR-x") (codes "my-bin") (codes "/o'p $x COMPLETER \"a\\")
unfolding posix_word_from posix_word_of sign byte_of after with_front cut_at up_to after_mark between without_blanks after_last_from last_line word_by word_after ended words_from before_last function_begins function_head call_begins call_ends name_ends otherwise registration_ends registration_front sorted_call plain_call registration_tail bash_registration variable_ends bash_variable bash_completer bash_name bash_binary
bash_row = record {
  variable_read = refl;
  completer_read = refl;
  name_read = refl;
  binary_read = refl;
}

fish_row : FishRegistrationReads (codes "V") (codes "my-bin") (codes "/o'p $x COMPLETER \"a\\")
unfolding is_fish_safe fish_sign fish_quoted fish_quoted_for_eval after with_front cut_at up_to after_mark between without_blanks word_by word_after fish.registration_begins fish.arguments_begin fish.shell_set fish.registration_ends fish.registration_front fish.fish_registration fish.fish_binary fish.fish_arguments fish.fish_variable fish.fish_completer
fish_row = record {
  variable_read = refl;
  completer_read = refl;
  binary_read = refl;
}

zsh_row : ZshRegistrationReads (codes "V") (codes "VAR-x") (codes "a_clap_dynamic_completer_b") (codes "/o'p $x COMPLETER \"a\\")
unfolding posix_word_from posix_word_of sign byte_of is_posix_safe is_posix_safe_word posix_quoted after with_front cut_at up_to after_mark between without_blanks after_last_from last_line word_by word_after zsh.registration_begins zsh.function_begins zsh.function_head zsh.call_begins zsh.call_ends zsh.name_ends zsh.registration_ends zsh.registration_head zsh.registration_front zsh.registration_tail zsh.zsh_registration zsh.variable_ends zsh.zsh_variable zsh.zsh_completer zsh.zsh_name zsh.zsh_binary
zsh_row = record {
  variable_read = refl;
  completer_read = refl;
  name_read = refl;
  binary_read = refl;
}

-- the whole text for fish, with a completer and a binary that need quotes
fish_text_row : fish.fish_registration (codes "V") (codes "dyn\\amic") (codes "/p/dyn\\amic/foo")
    ≡ codes "complete --keep-order --exclusive --command 'dyn\\\\amic' --arguments \"(V=fish '/p/dyn\\\\\\\\amic/foo' -- (commandline --current-process --tokenize --cut-at-cursor) (commandline --current-token))\"\n"
unfolding is_fish_safe fish_sign fish_quoted fish_quoted_for_eval fish.registration_begins fish.arguments_begin fish.shell_set fish.registration_ends fish.registration_front fish.fish_registration
fish_text_row = refl

elvish_row : ElvishRegistrationReads (codes "V") (codes "my-bin") (codes "/p/dyn_1.x/foo")
unfolding quoting_sign is_posix_safe is_posix_safe_word posix_quoted after with_front cut_at up_to after_mark between without_blanks after_last_from last_run word_by word_after elvish.registration_begins elvish.function_head elvish.shell_set elvish.registration_ends elvish.registration_front elvish.elvish_registration elvish.variable_ends elvish.elvish_variable elvish.elvish_completer elvish.elvish_binary
elvish_row = record {
  variable_read = refl;
  completer_read = refl;
  binary_read = refl;
}

powershell_row : PowershellRegistrationReads (codes "V") (codes "my-bin") (codes "/p/dyn_1.x/foo")
unfolding quoting_sign sign_before powershell_signs is_posix_safe is_posix_safe_word posix_quoted after with_front cut_at up_to after_mark between without_blanks word_by word_after powershell.registration_begins powershell.script_head powershell.environment powershell.prev_ends powershell.arguments powershell.call_begins powershell.call_ends powershell.otherwise powershell.registration_ends powershell.registration_head powershell.call powershell.registration_tail powershell.powershell_registration powershell.powershell_variable powershell.powershell_completer powershell.powershell_binary
powershell_row = record {
  variable_read = refl;
  completer_read = refl;
  binary_read = refl;
}

-- ---- completers with which the registrations for Elvish and PowerShell promise to read back

plain_paths :
    (is_plain_path (codes "/w/./app") ≡ true)
    × (is_plain_path (codes "/path with a space/c") ≡ false)
    × (is_plain_path (codes "") ≡ false)
unfolding is_plain_path is_path_byte
plain_paths = (refl, refl, refl)

-- ---- completers with whitespace and quotes, as they are written

odd_completers :
    (between (codes "V=\"bash\" \\\n        ") (codes " -- ")
    (bash_registration (codes "V") (codes "n") (codes "n") (codes "/opt/VAR \"NAME\"/c"))
    ≡ Some (codes "\"/opt/VAR \\\"NAME\\\"/c\""))
    × (between (codes "V=\"bash\" \\\n        ") (codes " -- ")
    (bash_registration (codes "V") (codes "n") (codes "n") (codes "/o'p $x COMPLETER"))
    ≡ Some (codes "\"/o'p \\$x COMPLETER\""))
    × (between (codes "V=\"zsh\" \\\n        ") (codes " -- ")
    (zsh.zsh_registration (codes "V") (codes "n") (codes "n") (codes "/opt/VAR \"NAME\"/c"))
    ≡ Some (codes "'/opt/VAR \"NAME\"/c'"))
    × (between (codes "V=\"zsh\" \\\n        ") (codes " -- ")
    (zsh.zsh_registration (codes "V") (codes "n") (codes "n") (codes "/o'p $x COMPLETER"))
    ≡ Some (codes "'/o'\\''p $x COMPLETER'"))
    × (between (codes " --arguments \"(") (codes " -- ")
    (fish.fish_registration (codes "V") (codes "n") (codes "/path with a space/completer"))
    ≡ Some (codes "V=fish '/path with a space/completer'"))
    × (between (codes " --arguments \"(") (codes " -- ")
    (fish.fish_registration (codes "V") (codes "n") (codes "/p/$var/c"))
    ≡ Some (codes "V=fish '/p/\\$var/c'"))
unfolding after with_front cut_at up_to after_mark between function_begins function_head call_begins call_ends name_ends otherwise registration_ends registration_front sorted_call plain_call registration_tail bash_registration is_posix_safe is_posix_safe_word posix_quoted zsh.registration_begins zsh.function_begins zsh.function_head zsh.call_begins zsh.call_ends zsh.name_ends zsh.registration_ends zsh.registration_head zsh.registration_front zsh.registration_tail zsh.zsh_registration is_fish_safe fish_sign fish_quoted fish_quoted_for_eval fish.registration_begins fish.arguments_begin fish.shell_set fish.registration_ends fish.registration_front fish.fish_registration
odd_completers = (refl, refl, refl, refl, refl, refl)
