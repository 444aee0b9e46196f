-- The registration for PowerShell, and the reading of its parts.
use Rattle.std.specs.Prelude.{⊤, ◌≡◌, ℕ, IsTrue, List, ◌++◌, Option, Some, codes}
use Rattle.cc_base.specs.PlainName.{is_plain_name}
use Rattle.cc_quote.specs.PosixQuote.{posix_quoted}
use Rattle.cc_quote.specs.PowershellQuote.{powershell_word_of}
use Rattle.cc_base.specs.Found.{between, word_after}
use Rattle.cc_quote.specs.PlainPath.{is_plain_path}

-- ---- the text

-- the text before the binary
unfoldable pub registration_begins : List ℕ
registration_begins =
    codes "\n"
    ++ codes "Register-ArgumentCompleter -Native -CommandName "

-- the text between the binary and `$env:`
unfoldable pub script_head : List ℕ
script_head =
    codes " -ScriptBlock {\n"
    ++ codes "    param($wordToComplete, $commandAst, $cursorPosition)\n"
    ++ codes "\n"
    ++ codes "    $prev = "

-- the text before the variable
unfoldable pub environment : List ℕ
environment = codes "$env:"

-- the text between the first two occurrences of the variable
unfoldable pub prev_ends : List ℕ
prev_ends =
    codes ";\n"
    ++ codes "    $env:"

-- the text after the variable, before the line of the completer
unfoldable pub arguments : List ℕ
arguments =
    codes " = \"powershell\";\n"
    ++ codes "\n"
    ++ codes "    $args = $commandAst.Extent.Text\n"
    ++ codes "    $args = $args.Substring(0, [math]::Min($cursorPosition, $args.Length));\n"
    ++ codes "    if ($wordToComplete -eq \"\") {\n"
    ++ codes "        $args += \" ''\";\n"
    ++ codes "    }\n"
    ++ codes "\n"
    ++ codes "    $results = Invoke-Expression @\""

-- the text before the completer
unfoldable pub call_begins : List ℕ
call_begins =
    codes "\n"
    ++ codes "& "

-- the text between the completer and the third occurrence of the variable
unfoldable pub call_ends : List ℕ
call_ends =
    codes " -- $args\n"
    ++ codes "\"@;\n"
    ++ codes "    if ($null -eq $prev) {\n"
    ++ codes "        Remove-Item Env:\\"

-- the text between the last two occurrences of the variable
unfoldable pub otherwise : List ℕ
otherwise =
    codes ";\n"
    ++ codes "    } else {\n"
    ++ codes "        $env:"

-- the text after the variable
unfoldable pub registration_ends : List ℕ
registration_ends =
    codes " = $prev;\n"
    ++ codes "    }\n"
    ++ codes "    $results | ForEach-Object {\n"
    ++ codes "        $split = $_.Split(\"`t\");\n"
    ++ codes "        $cmd = $split[0];\n"
    ++ codes "\n"
    ++ codes "        if ($split.Length -eq 2) {\n"
    ++ codes "            $help = $split[1];\n"
    ++ codes "        }\n"
    ++ codes "        else {\n"
    ++ codes "            $help = $split[0];\n"
    ++ codes "        }\n"
    ++ codes "\n"
    ++ codes "        [System.Management.Automation.CompletionResult]::new($cmd, $cmd, 'ParameterValue', $help)\n"
    ++ codes "    }\n"
    ++ codes "};\n"
    ++ codes "        \n"

-- unfolds each fixed text
unfoldable pub fixed_texts : ⊤
unfolding registration_begins script_head environment prev_ends arguments call_begins call_ends otherwise registration_ends
fixed_texts = tt

-- the text before the first occurrence of the variable
unfoldable pub registration_head : List ℕ → List ℕ
registration_head bin = registration_begins ++ posix_quoted bin ++ script_head ++ environment

-- the text after that, before the completer
unfoldable pub call : List ℕ → List ℕ
call variable = variable ++ prev_ends ++ variable ++ arguments ++ call_begins

-- the text after the completer
unfoldable pub registration_tail : List ℕ → List ℕ
registration_tail variable =
    call_ends ++ variable ++ otherwise ++ variable ++ registration_ends

-- the registration
unfoldable pub powershell_registration : List ℕ → List ℕ → List ℕ → List ℕ
powershell_registration variable bin completer =
    registration_head bin ++ call variable ++ posix_quoted completer
    ++ registration_tail variable

-- ---- how it is read

-- the variable: from the first `$env:` up to `;`
unfoldable pub powershell_variable : List ℕ → Option (List ℕ)
powershell_variable text = between (codes "$env:") (codes ";") text

-- the completer: the word after `& ` at the beginning of a line
unfoldable pub powershell_completer : List ℕ → Option (List ℕ)
powershell_completer text = word_after powershell_word_of (codes "\n& ") text

-- the binary: the word after `-CommandName`
unfoldable pub powershell_binary : List ℕ → Option (List ℕ)
powershell_binary text = word_after powershell_word_of (codes "-CommandName") text

-- the registration reads back to its variable, completer and binary
pub record PowershellRegistrationReads (variable bin completer : List ℕ) : Type 0 where
  pub variable_read :
      powershell_variable (powershell_registration variable bin completer) ≡ Some variable
  pub completer_read :
      powershell_completer (powershell_registration variable bin completer) ≡ Some completer
  pub binary_read : powershell_binary (powershell_registration variable bin completer) ≡ Some bin

-- if the variable, the binary and the completer's path are plain, the registration reads back
unfoldable pub PowershellReads : List ℕ → List ℕ → List ℕ → Type 0
PowershellReads variable bin completer =
    IsTrue (is_plain_name variable) → IsTrue (is_plain_name bin) → IsTrue (is_plain_path completer)
    → PowershellRegistrationReads variable bin completer
