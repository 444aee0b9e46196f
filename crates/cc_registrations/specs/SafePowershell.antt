-- The safe registration for PowerShell, and the reading of its parts.
use Rattle.std.specs.Prelude.{⊤, ◌≡◌, ℕ, List, ◌++◌, Option, Some, map, option_map, codes}
use Rattle.std.specs.Option.{option_and_then}
use Rattle.cc_base.specs.Found.{after_mark, between, word_after}
use Rattle.cc_base.specs.Joined.{joined}
use Rattle.cc_registrations.specs.AllQuotes.{all_quotes_word_of}
use Rattle.cc_registrations.specs.Names.{before_space, ending_at, identifier, if_identifier, listed_by, powershell_quoted, quoted_by}

-- ---- the text

-- the text before the programs
unfoldable pub names_begin : List ℕ
names_begin = codes "Register-ArgumentCompleter -Native -CommandName "

-- the text between the programs and the variable
unfoldable pub script_head : List ℕ
script_head =
    codes " -ScriptBlock {\n"
    ++ codes "    param($wordToComplete, $commandAst, $cursorPosition)\n"
    ++ codes "\n"
    ++ codes "    # The words up to the cursor, without the quotes that they were typed with.\n"
    ++ codes "    $words = @(foreach ($element in $commandAst.CommandElements) {\n"
    ++ codes "        $extent = $element.Extent\n"
    ++ codes "        if ($extent.StartOffset -ge $cursorPosition) { break }\n"
    ++ codes "        $end = $extent.EndOffset\n"
    ++ codes "        if ($end -gt $cursorPosition) {\n"
    ++ codes "            $extent.Text.Substring(0, $cursorPosition - $extent.StartOffset) -replace '^[''\"]'\n"
    ++ codes "        } elseif ($element -is [System.Management.Automation.Language.StringConstantExpressionAst]) {\n"
    ++ codes "            $element.Value\n"
    ++ codes "        } else {\n"
    ++ codes "            $extent.Text\n"
    ++ codes "        }\n"
    ++ codes "    })\n"
    ++ codes "    if ($end -lt $cursorPosition) { $words += '' }\n"
    ++ codes "\n"
    ++ codes "    # Asks for candidates; where complgen asks back, with what the words that it names print. A `\"`\n"
    ++ codes "    # reaches programs only if PowerShell escapes it.\n"
    ++ codes "    $PSNativeCommandUseErrorActionPreference = $false\n"
    ++ codes "    $before = @($env:"

-- the text between the first two occurrences of the variable
unfoldable pub variable_kept : List ℕ
variable_kept =
    codes ", $env:_COMPLGEN_VALUES, $env:_COMPLGEN_QUOTE)\n"
    ++ codes "    function Request($values) {\n"
    ++ codes "        begin { $lines = [System.Collections.Generic.List[string]]::new() }\n"
    ++ codes "        process { $lines.Add(\"$_\") }\n"
    ++ codes "        end {\n"
    ++ codes "            $env:"

-- the text after that, before the completer
unfoldable pub call_begins : List ℕ
call_begins =
    codes " = 'powershell'\n"
    ++ codes "            $env:_COMPLGEN_VALUES = $values\n"
    ++ codes "            $env:_COMPLGEN_QUOTE = if ($PSVersionTable.PSVersion -ge '7.3' -and\n"
    ++ codes "                $PSNativeCommandArgumentPassing -ne 'Legacy') { '\"' } else { '' }\n"
    ++ codes "            try { $lines | & "

-- the text between the completer and the third occurrence of the variable
unfoldable pub call_ends : List ℕ
call_ends =
    codes " -- @words 2>$null }\n"
    ++ codes "            finally { $env:"

-- the text after the variable
unfoldable pub script_ends : List ℕ
script_ends =
    codes ", $env:_COMPLGEN_VALUES, $env:_COMPLGEN_QUOTE = $before }\n"
    ++ codes "        }\n"
    ++ codes "    }\n"
    ++ codes "    $reply = @($null | Request 'ask')\n"
    ++ codes "    if ($LASTEXITCODE -eq 3) {\n"
    ++ codes "        $run = ($reply -join \"`n\").Split(\"`v\")\n"
    ++ codes "        $name = [WildcardPattern]::Escape($run[0])\n"
    ++ codes "        $program = Get-Command $name -CommandType Application -TotalCount 1 -ErrorAction Ignore\n"
    ++ codes "        $rest = @($run | Select-Object -Skip 1 | Select-Object -SkipLast 1)\n"
    ++ codes "        $lines = if ($program) { $null | & $program @rest 2>$null }\n"
    ++ codes "        $reply = @($lines | Request 'stdin')\n"
    ++ codes "    }\n"
    ++ codes "    if ($LASTEXITCODE -ne 0) { return }\n"
    ++ codes "    foreach ($line in $reply) {\n"
    ++ codes "        $text, $value, $help = $line -split \"`t\", 3\n"
    ++ codes "        if (-not $help) { $help = $value }\n"
    ++ codes "        [System.Management.Automation.CompletionResult]::new($text, $value, 'ParameterValue', $help)\n"
    ++ codes "    }\n"
    ++ codes "}\n"

-- unfolds each fixed text
unfoldable pub fixed_texts : ⊤
unfolding names_begin script_head variable_kept call_begins call_ends script_ends
fixed_texts = tt

-- the text before the first occurrence of the variable
unfoldable pub registration_head : List (List ℕ) → List ℕ
registration_head bins =
    names_begin ++ joined (codes ", ") (map powershell_quoted bins) ++ script_head

-- the text after that, before the completer
unfoldable pub call : List ℕ → List ℕ
call variable = identifier variable ++ variable_kept ++ identifier variable ++ call_begins

-- the text after the completer
unfoldable pub registration_tail : List ℕ → List ℕ
registration_tail variable = call_ends ++ identifier variable ++ script_ends

-- the registration, which does not use the name
unfoldable pub safe_powershell : List ℕ → List ℕ → List (List ℕ) → List ℕ → List ℕ
safe_powershell variable name bins completer =
    registration_head bins ++ call variable ++ powershell_quoted completer
    ++ registration_tail variable

-- ---- how it is read

-- the programs, which are quoted words after `-CommandName` and up to `-ScriptBlock`, and the text
-- after that
unfoldable pub safe_powershell_names : List ℕ → Option (List (List ℕ) × List ℕ)
safe_powershell_names text =
    option_and_then (ending_at (codes " -ScriptBlock "))
    (option_and_then (listed_by (quoted_by all_quotes_word_of) (codes ", "))
    (after_mark (codes "-CommandName ") text))

-- the programs
unfoldable pub safe_powershell_binaries : List ℕ → Option (List (List ℕ))
safe_powershell_binaries text = option_map (λ listed. listed.0) (safe_powershell_names text)

-- the script, which follows them
unfoldable pub safe_powershell_script : List ℕ → Option (List ℕ)
safe_powershell_script text = option_map (λ listed. listed.1) (safe_powershell_names text)

-- the variable: in the script, the identifier from the first `$env:` up to `,`
unfoldable pub safe_powershell_variable : List ℕ → Option (List ℕ)
safe_powershell_variable text =
    option_and_then if_identifier
    (option_and_then (between (codes "$env:") (codes ",")) (safe_powershell_script text))

-- the completer: in the script, the quoted word after the first `| &`
unfoldable pub safe_powershell_completer : List ℕ → Option (List ℕ)
safe_powershell_completer text =
    option_and_then (word_after (before_space (quoted_by all_quotes_word_of)) (codes "| &"))
    (safe_powershell_script text)

-- The registration reads back: the variable as an identifier, the programs and the completer
-- unchanged. This holds for any of them.
pub record SafePowershellReads (variable name : List ℕ) (bins : List (List ℕ))
    (completer : List ℕ) : Type 0 where
  pub variable_read :
      safe_powershell_variable (safe_powershell variable name bins completer)
      ≡ Some (identifier variable)
  pub completer_read :
      safe_powershell_completer (safe_powershell variable name bins completer)
      ≡ Some completer
  pub binaries_read :
      safe_powershell_binaries (safe_powershell variable name bins completer)
      ≡ Some bins
