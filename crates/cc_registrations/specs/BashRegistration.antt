-- The registration for bash, and the reading of its parts.
use Rattle.std.specs.Prelude.{⊤, ◌≡◌, ℕ, IsTrue, List, [], ◌++◌, Option, Some, option_map, codes}
use Rattle.cc_quote.specs.BashDouble.{bash_doubled}
use Rattle.cc_quote.specs.PosixQuote.{posix_word_of}
use Rattle.cc_base.specs.PlainName.{is_plain_name}
use Rattle.cc_base.specs.Found.{before_last, between, last_line, up_to, without_blanks, word_after, words_from}
use Rattle.cc_registrations.specs.Names.{underscored}

-- ---- the text

-- the text before the name
unfoldable pub function_begins : List ℕ
function_begins = codes "\n_clap_complete_"

-- the text between the name and the variable
unfoldable pub function_head : List ℕ
function_head =
    codes "() {\n"
    ++ codes "    local IFS=$'\\013'\n"
    ++ codes "    local _CLAP_COMPLETE_INDEX=${COMP_CWORD}\n"
    ++ codes "    local _CLAP_COMPLETE_COMP_TYPE=${COMP_TYPE}\n"
    ++ codes "    if compopt +o nospace 2> /dev/null; then\n"
    ++ codes "        local _CLAP_COMPLETE_SPACE=false\n"
    ++ codes "    else\n"
    ++ codes "        local _CLAP_COMPLETE_SPACE=true\n"
    ++ codes "    fi\n"
    ++ codes "    local words=(\"${COMP_WORDS[@]}\")\n"
    ++ codes "    if [[ \"${BASH_VERSINFO[0]}\" -ge 4 ]]; then\n"
    ++ codes "        words[COMP_CWORD]=\"$2\"\n"
    ++ codes "    fi\n"
    ++ codes "    COMPREPLY=( $( \\\n"
    ++ codes "        _CLAP_IFS=\"$IFS\" \\\n"
    ++ codes "        _CLAP_COMPLETE_INDEX=\"$_CLAP_COMPLETE_INDEX\" \\\n"
    ++ codes "        _CLAP_COMPLETE_COMP_TYPE=\"$_CLAP_COMPLETE_COMP_TYPE\" \\\n"
    ++ codes "        _CLAP_COMPLETE_SPACE=\"$_CLAP_COMPLETE_SPACE\" \\\n"
    ++ codes "        "

-- the text between the variable and the completer
unfoldable pub call_begins : List ℕ
call_begins = codes "=\"bash\" \\\n        \""

-- the text between the completer and the second occurrence of the name
unfoldable pub call_ends : List ℕ
call_ends =
    codes "\" -- \"${words[@]}\" \\\n"
    ++ codes "    ) )\n"
    ++ codes "    if [[ $? != 0 ]]; then\n"
    ++ codes "        unset COMPREPLY\n"
    ++ codes "    elif [[ $_CLAP_COMPLETE_SPACE == false ]] && [[ \"${COMPREPLY-}\" =~ [=/:]$ ]]; then\n"
    ++ codes "        compopt -o nospace\n"
    ++ codes "    fi\n"
    ++ codes "}\n"
    ++ codes "if [[ \"${BASH_VERSINFO[0]}\" -eq 4 && \"${BASH_VERSINFO[1]}\" -ge 4 "
    ++ codes "|| \"${BASH_VERSINFO[0]}\" -gt 4 ]]; then\n"
    ++ codes "    complete -o nospace -o bashdefault -o nosort -F _clap_complete_"

-- the text between a name and the binary
unfoldable pub name_ends : List ℕ
name_ends = codes " "

-- the text between the binary and the third occurrence of the name
unfoldable pub otherwise : List ℕ
otherwise = codes "\nelse\n    complete -o nospace -o bashdefault -F _clap_complete_"

-- the text after the binary
unfoldable pub registration_ends : List ℕ
registration_ends = codes "\nfi\n\n"

-- unfolds each fixed text
unfoldable pub fixed_texts : ⊤
unfolding function_begins function_head call_begins call_ends name_ends otherwise registration_ends
fixed_texts = tt

-- the text before the completer
unfoldable pub registration_front : List ℕ → List ℕ → List ℕ
registration_front variable name =
    function_begins ++ underscored name ++ function_head ++ variable ++ call_begins

-- the text from the completer on, before the third occurrence of the name
unfoldable pub sorted_call : List ℕ → List ℕ → List ℕ
sorted_call name bin = call_ends ++ underscored name ++ name_ends ++ bin ++ otherwise

-- the text after that
unfoldable pub plain_call : List ℕ → List ℕ → List ℕ
plain_call name bin = underscored name ++ name_ends ++ bin ++ registration_ends

-- the text from the completer on
unfoldable pub registration_tail : List ℕ → List ℕ → List ℕ
registration_tail name bin = sorted_call name bin ++ plain_call name bin

-- the registration
unfoldable pub bash_registration : List ℕ → List ℕ → List ℕ → List ℕ → List ℕ
bash_registration variable name bin completer =
    registration_front variable name ++ bash_doubled completer ++ registration_tail name bin

-- ---- how it is read

-- the end of the line of the variable
unfoldable pub variable_ends : List ℕ
variable_ends = codes "=\"bash\" \\\n"

-- the variable: the first line with this end, without the end and without whitespace at its start
unfoldable pub bash_variable : List ℕ → Option (List ℕ)
bash_variable text =
    option_map (λ before. without_blanks (last_line before)) (up_to variable_ends text)

-- the completer: the word after that line
unfoldable pub bash_completer : List ℕ → Option (List ℕ)
bash_completer text = word_after posix_word_of variable_ends text

-- the name, which is part of the function's name
unfoldable pub bash_name : List ℕ → Option (List ℕ)
bash_name text = between (codes "_clap_complete_") (codes "() {") text

-- the binary: the last word before the closing `fi`
unfoldable pub bash_binary : List ℕ → Option (List ℕ)
bash_binary text = before_last (codes "fi") (words_from [] text)

-- the registration reads back to its variable, completer, name and binary
pub record BashRegistrationReads (variable name bin completer : List ℕ) : Type 0 where
  pub variable_read : bash_variable (bash_registration variable name bin completer) ≡ Some variable
  pub completer_read :
      bash_completer (bash_registration variable name bin completer) ≡ Some completer
  pub name_read :
      bash_name (bash_registration variable name bin completer) ≡ Some (underscored name)
  pub binary_read : bash_binary (bash_registration variable name bin completer) ≡ Some bin

-- if the variable, the name and the binary are plain, the registration reads back, whatever the
-- completer is
unfoldable pub BashReads : List ℕ → List ℕ → List ℕ → List ℕ → Type 0
BashReads variable name bin completer =
    IsTrue (is_plain_name variable) → IsTrue (is_plain_name name) → IsTrue (is_plain_name bin)
    → BashRegistrationReads variable name bin completer
