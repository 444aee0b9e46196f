-- The registration for fish, and the reading of its parts.
use Rattle.std.specs.Prelude.{⊤, ◌≡◌, ℕ, IsTrue, List, ◌++◌, Option, Some, codes}
use Rattle.std.specs.Option.{option_and_then}
use Rattle.cc_quote.specs.FishQuote.{fish_double_of, fish_quoted, fish_quoted_for_eval, fish_word_of}
use Rattle.cc_base.specs.PlainName.{is_plain_name}
use Rattle.cc_base.specs.Found.{between, word_after}

-- ---- the text

-- the text before the binary
unfoldable pub registration_begins : List ℕ
registration_begins = codes "complete --keep-order --exclusive --command "

-- the text between the binary and the variable
unfoldable pub arguments_begin : List ℕ
arguments_begin = codes " --arguments \"("

-- the text between the variable and the completer
unfoldable pub shell_set : List ℕ
shell_set = codes "=fish "

-- the text after the completer
unfoldable pub registration_ends : List ℕ
registration_ends =
    codes " -- (commandline --current-process --tokenize --cut-at-cursor) "
    ++ codes "(commandline --current-token))\"\n"

-- unfolds each fixed text
unfoldable pub fixed_texts : ⊤
unfolding registration_begins arguments_begin shell_set registration_ends
fixed_texts = tt

-- the text before the completer
unfoldable pub registration_front : List ℕ → List ℕ → List ℕ
registration_front variable bin =
    registration_begins ++ fish_quoted bin ++ arguments_begin ++ variable ++ shell_set

-- the registration
unfoldable pub fish_registration : List ℕ → List ℕ → List ℕ → List ℕ
fish_registration variable bin completer =
    registration_front variable bin ++ fish_quoted_for_eval completer ++ registration_ends

-- ---- how it is read

-- the binary: the word after `--command`
unfoldable pub fish_binary : List ℕ → Option (List ℕ)
fish_binary text = word_after fish_word_of (codes "--command") text

-- the text in the quotes after `--arguments`
unfoldable pub fish_arguments : List ℕ → Option (List ℕ)
fish_arguments text = word_after fish_double_of (codes " --arguments") text

-- the variable: in that text, between `(` and `=fish`
unfoldable pub fish_variable : List ℕ → Option (List ℕ)
fish_variable text = option_and_then (between (codes "(") (codes "=fish")) (fish_arguments text)

-- the completer: in that text, the word after `=fish`
unfoldable pub fish_completer : List ℕ → Option (List ℕ)
fish_completer text =
    option_and_then (word_after fish_word_of (codes "=fish")) (fish_arguments text)

-- the registration reads back to its variable, completer and binary
pub record FishRegistrationReads (variable bin completer : List ℕ) : Type 0 where
  pub variable_read : fish_variable (fish_registration variable bin completer) ≡ Some variable
  pub completer_read : fish_completer (fish_registration variable bin completer) ≡ Some completer
  pub binary_read : fish_binary (fish_registration variable bin completer) ≡ Some bin

-- if the variable and the binary are plain, the registration reads back, whatever the completer is
unfoldable pub FishReads : List ℕ → List ℕ → List ℕ → Type 0
FishReads variable bin completer =
    IsTrue (is_plain_name variable) → IsTrue (is_plain_name bin)
    → FishRegistrationReads variable bin completer
