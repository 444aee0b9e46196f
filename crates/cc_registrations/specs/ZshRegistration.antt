-- The registration for zsh, and the reading of its parts.
use Rattle.std.specs.Prelude.{⊤, ◌≡◌, ℕ, IsTrue, List, ◌++◌, Option, Some, option_map, codes}
use Rattle.cc_quote.specs.PosixQuote.{posix_quoted, posix_word_of}
use Rattle.cc_base.specs.PlainName.{is_plain_name}
use Rattle.cc_base.specs.Found.{between, last_line, up_to, without_blanks, word_after}
use Rattle.cc_registrations.specs.Names.{underscored}

-- ---- the text

-- the text before the binary
unfoldable pub registration_begins : List ℕ
registration_begins = codes "#compdef "

-- the text between the binary and the name
unfoldable pub function_begins : List ℕ
function_begins = codes "\nfunction _clap_dynamic_completer_"

-- the text between the name and the variable
unfoldable pub function_head : List ℕ
function_head =
    codes "() {\n"
    ++ codes "    local _CLAP_COMPLETE_INDEX=$(expr $CURRENT - 1)\n"
    ++ codes "    local _CLAP_IFS=$'\\n'\n"
    ++ codes "\n"
    ++ codes "    local completions=(\"${(@f)$( \\\n"
    ++ codes "        _CLAP_IFS=\"$_CLAP_IFS\" \\\n"
    ++ codes "        _CLAP_COMPLETE_INDEX=\"$_CLAP_COMPLETE_INDEX\" \\\n"
    ++ codes "        "

-- the text between the variable and the completer
unfoldable pub call_begins : List ℕ
call_begins = codes "=\"zsh\" \\\n        "

-- the text between the completer and the second occurrence of the name
unfoldable pub call_ends : List ℕ
call_ends =
    codes " -- \"${words[@]}\" 2>/dev/null \\\n"
    ++ codes "    )}\")\n"
    ++ codes "\n"
    ++ codes "    if [[ -n $completions ]]; then\n"
    ++ codes "        local -a dirs=()\n"
    ++ codes "        local -a other=()\n"
    ++ codes "        local completion\n"
    ++ codes "        for completion in $completions; do\n"
    ++ codes "            local value=\"${completion%%:*}\"\n"
    ++ codes "            if [[ \"$value\" == */ ]]; then\n"
    ++ codes "                local dir_no_slash=\"${value%/}\"\n"
    ++ codes "                if [[ \"$completion\" == *:* ]]; then\n"
    ++ codes "                    local desc=\"${completion#*:}\"\n"
    ++ codes "                    dirs+=(\"$dir_no_slash:$desc\")\n"
    ++ codes "                else\n"
    ++ codes "                    dirs+=(\"$dir_no_slash\")\n"
    ++ codes "                fi\n"
    ++ codes "            else\n"
    ++ codes "                other+=(\"$completion\")\n"
    ++ codes "            fi\n"
    ++ codes "        done\n"
    ++ codes "        [[ -n $dirs ]] && _describe -V 'values' dirs -S '/' -r '/'\n"
    ++ codes "        [[ -n $other ]] && _describe -V 'values' other\n"
    ++ codes "    fi\n"
    ++ codes "}\n"
    ++ codes "\n"
    ++ codes "compdef _clap_dynamic_completer_"

-- the text between the name and the binary
unfoldable pub name_ends : List ℕ
name_ends = codes " "

-- the text after the binary
unfoldable pub registration_ends : List ℕ
registration_ends = codes "\n"

-- unfolds each fixed text
unfoldable pub fixed_texts : ⊤
unfolding registration_begins function_begins function_head call_begins call_ends name_ends registration_ends
fixed_texts = tt

-- the text before the name
unfoldable pub registration_head : List ℕ → List ℕ
registration_head bin = registration_begins ++ posix_quoted bin ++ function_begins

-- the text before the completer
unfoldable pub registration_front : List ℕ → List ℕ → List ℕ → List ℕ
registration_front variable name bin =
    registration_head bin ++ underscored name ++ function_head ++ variable ++ call_begins

-- the text after the completer
unfoldable pub registration_tail : List ℕ → List ℕ → List ℕ
registration_tail name bin =
    call_ends ++ underscored name ++ name_ends ++ posix_quoted bin ++ registration_ends

-- the registration
unfoldable pub zsh_registration : List ℕ → List ℕ → List ℕ → List ℕ → List ℕ
zsh_registration variable name bin completer =
    registration_front variable name bin ++ posix_quoted completer ++ registration_tail name bin

-- ---- how it is read

-- the end of the line of the variable
unfoldable pub variable_ends : List ℕ
variable_ends = codes "=\"zsh\" \\\n"

-- the variable: the first line with this end, without the end and without whitespace at its start
unfoldable pub zsh_variable : List ℕ → Option (List ℕ)
zsh_variable text =
    option_map (λ before. without_blanks (last_line before)) (up_to variable_ends text)

-- the completer: the word after that line
unfoldable pub zsh_completer : List ℕ → Option (List ℕ)
zsh_completer text = word_after posix_word_of variable_ends text

-- the name, which is part of the function's name and begins a word; a binary may contain the mark
-- without the space
unfoldable pub zsh_name : List ℕ → Option (List ℕ)
zsh_name text = between (codes " _clap_dynamic_completer_") (codes "() {") text

-- the binary: the word after `#compdef`
unfoldable pub zsh_binary : List ℕ → Option (List ℕ)
zsh_binary text = word_after posix_word_of (codes "#compdef") text

-- the registration reads back to its variable, completer, name and binary
pub record ZshRegistrationReads (variable name bin completer : List ℕ) : Type 0 where
  pub variable_read : zsh_variable (zsh_registration variable name bin completer) ≡ Some variable
  pub completer_read : zsh_completer (zsh_registration variable name bin completer) ≡ Some completer
  pub name_read : zsh_name (zsh_registration variable name bin completer) ≡ Some (underscored name)
  pub binary_read : zsh_binary (zsh_registration variable name bin completer) ≡ Some bin

-- if the variable, the name and the binary are plain, the registration reads back, whatever the
-- completer is
unfoldable pub ZshReads : List ℕ → List ℕ → List ℕ → List ℕ → Type 0
ZshReads variable name bin completer =
    IsTrue (is_plain_name variable) → IsTrue (is_plain_name name) → IsTrue (is_plain_name bin)
    → ZshRegistrationReads variable name bin completer
