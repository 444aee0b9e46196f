-- The registration for Elvish, and the reading of its parts.
use Rattle.std.specs.Prelude.{⊤, ◌≡◌, ℕ, IsTrue, List, ◌++◌, Option, Some, option_map, codes}
use Rattle.cc_base.specs.PlainName.{is_plain_name}
use Rattle.cc_quote.specs.ElvishQuote.{elvish_word_of}
use Rattle.cc_quote.specs.PosixQuote.{posix_quoted}
use Rattle.cc_base.specs.Found.{between, last_run, up_to, word_after}
use Rattle.cc_quote.specs.PlainPath.{is_plain_path}

-- ---- the text

-- the text before the binary
unfoldable pub registration_begins : List ℕ
registration_begins =
    codes "\n"
    ++ codes "set edit:completion:arg-completer["

-- the text between the binary and the variable
unfoldable pub function_head : List ℕ
function_head =
    codes "] = { |@words|\n"
    ++ codes "    var index = (count $words)\n"
    ++ codes "    set index = (- $index 1)\n"
    ++ codes "\n"
    ++ codes "    put (env _CLAP_IFS=\"\\n\" _CLAP_COMPLETE_INDEX=(to-string $index) "

-- the text between the variable and the completer
unfoldable pub shell_set : List ℕ
shell_set = codes "=\"elvish\" "

-- the text after the completer
unfoldable pub registration_ends : List ℕ
registration_ends =
    codes " -- $@words) | to-lines\n"
    ++ codes "}\n"
    ++ codes "\n"

-- unfolds each fixed text
unfoldable pub fixed_texts : ⊤
unfolding registration_begins function_head shell_set registration_ends
fixed_texts = tt

-- the text before the completer
unfoldable pub registration_front : List ℕ → List ℕ → List ℕ
registration_front variable bin =
    registration_begins ++ posix_quoted bin ++ function_head ++ variable ++ shell_set

-- the registration
unfoldable pub elvish_registration : List ℕ → List ℕ → List ℕ → List ℕ
elvish_registration variable bin completer =
    registration_front variable bin ++ posix_quoted completer ++ registration_ends

-- ---- how it is read

-- the text after the variable
unfoldable pub variable_ends : List ℕ
variable_ends = codes "=\"elvish\""

-- the variable: the text before that, after the last whitespace
unfoldable pub elvish_variable : List ℕ → Option (List ℕ)
elvish_variable text = option_map last_run (up_to variable_ends text)

-- the completer: the word after that
unfoldable pub elvish_completer : List ℕ → Option (List ℕ)
elvish_completer text = word_after elvish_word_of variable_ends text

-- the binary: the key of the completer
unfoldable pub elvish_binary : List ℕ → Option (List ℕ)
elvish_binary text = between (codes "arg-completer[") (codes "]") text

-- the registration reads back to its variable, completer and binary
pub record ElvishRegistrationReads (variable bin completer : List ℕ) : Type 0 where
  pub variable_read : elvish_variable (elvish_registration variable bin completer) ≡ Some variable
  pub completer_read :
      elvish_completer (elvish_registration variable bin completer) ≡ Some completer
  pub binary_read : elvish_binary (elvish_registration variable bin completer) ≡ Some bin

-- if the variable, the binary and the completer's path are plain, the registration reads back
unfoldable pub ElvishReads : List ℕ → List ℕ → List ℕ → Type 0
ElvishReads variable bin completer =
    IsTrue (is_plain_name variable) → IsTrue (is_plain_name bin) → IsTrue (is_plain_path completer)
    → ElvishRegistrationReads variable bin completer
