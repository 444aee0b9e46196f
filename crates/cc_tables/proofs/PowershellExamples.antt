-- Examples of rows, tables and scripts, byte by byte.
use Rattle.std.proofs.Common.{◌≡◌, List, [], ◌∷◌, Some, None, codes, map, flat_map, refl, encode_utf8_all}
use Rattle.std.specs.Char.{encode_utf8}
use Rattle.cc_arg.specs.declared.parts.ArgParts.{ArgParts as Arg}
use Rattle.cc_arg.specs.Arguments.{new_arg}
use Rattle.cc_quote.specs.PowershellQuote.{sign_before, powershell_signs}
use Rattle.cc_quote.specs.PowershellTokens.{powershell_tokens}
use Rattle.cc_quote.specs.Signs.{sign}
use Rattle.cc_quote.specs.Tokens.{cut, is_word, strip_words, after_words}
use Rattle.cc_tables.specs.Offers.{argument_offers}
use Rattle.cc_tables.specs.PowershellReader.{if_quoted, part, kind_of, step, spelling, tables_begin, powershell_tables}
use Rattle.cc_tables.specs.PowershellScript.{Row, details_text, kind_begin, kind_text, list_begin, offer_row, parameter_name, parameter_value, powershell_frame, powershell_named, row_begin, row_end, row_text, text_begin, words_text}
use Rattle.cc_tables.specs.Script.{head_text, named_text, script_text, table_text}
use Rattle.cc_tables.specs.TableReader.{after_step, next, tables_of, read}
use Rattle.cc_tables.specs.Tables.{Table}

texts :
    -- a row
    (row_text (record { word = codes "-V"; list = codes "-V "; kind = parameter_name; text = codes "it's\n[x]:\\" })
    ≡ codes "\n            [CompletionResult]::new('-V', '-V ', [CompletionResultType]::ParameterName, 'it''s [x]:\\')")
    -- a table without rows
    × (table_text powershell_frame row_text (record { key = codes "app"; rows = [] }) ≡ codes "\n        'app' {\n            break\n        }")
    -- a script without tables
    × (script_text powershell_frame row_text (codes "app") []
    ≡ codes "\nusing namespace System.Management.Automation\nusing namespace System.Management.Automation.Language\n\nRegister-ArgumentCompleter -Native -CommandName 'app' -ScriptBlock {\n    param($wordToComplete, $commandAst, $cursorPosition)\n\n    $commandElements = $commandAst.CommandElements\n    $command = @(\n        'app'\n        for ($i = 1; $i -lt $commandElements.Count; $i++) {\n            $element = $commandElements[$i]\n            if ($element -isnot [StringConstantExpressionAst] -or\n                $element.StringConstantType -ne [StringConstantType]::BareWord -or\n                $element.Value.StartsWith('-') -or\n                $element.Value -eq $wordToComplete) {\n                break\n        }\n        $element.Value\n    }) -join ';'\n\n    $completions = @(switch ($command) {\n    })\n\n    $completions.Where{ $_.CompletionText -like \"$wordToComplete*\" } |\n        Sort-Object -Property ListItemText\n}\n")
unfolding kind_text row_begin list_begin kind_begin text_begin row_end words_text details_text row_text powershell_frame table_text powershell_named named_text head_text script_text
texts = (refl, refl, refl)

-- two tables as a program's help texts give them
abbrev given : List (Table Row)
given =
    record {
      key = codes "app";
      rows = record { word = codes "--out"; list = codes "--out"; kind = parameter_name; text = codes "out" }
          ∷ record { word = codes "-V"; list = codes "-V "; kind = parameter_name; text = encode_utf8_all (codes "It's\nrun’s café") }
          ∷ record { word = codes "run"; list = codes "run"; kind = parameter_value; text = codes "" }
          ∷ [];
    }
    ∷ record { key = codes "app;run"; rows = record { word = codes "break"; list = codes "break"; kind = parameter_value; text = codes "'}" } ∷ [] }
    ∷ []

-- the same tables as they are read
abbrev read_back : List (Table Row)
read_back =
    record {
      key = codes "app";
      rows = record { word = codes "--out"; list = codes "--out"; kind = parameter_name; text = codes "out" }
          ∷ record { word = codes "-V"; list = codes "-V "; kind = parameter_name; text = encode_utf8_all (codes "It's run’s café") }
          ∷ record { word = codes "run"; list = codes "run"; kind = parameter_value; text = codes "" }
          ∷ [];
    }
    ∷ record { key = codes "app;run"; rows = record { word = codes "break"; list = codes "break"; kind = parameter_value; text = codes "'}" } ∷ [] }
    ∷ []

-- an argument with a capital short, an empty help text and a visible short alias
abbrev switch : Arg
switch = record (new_arg (codes "switch")) { short = Some 83; visible_short_aliases = 120 ∷ []; help = Some [] }

switch_rows :
    -- the rows of that argument: a space follows the capital, and the short describes both names
    (flat_map row_text (map offer_row (argument_offers switch)) ≡ codes "\n            [CompletionResult]::new('-S', '-S ', [CompletionResultType]::ParameterName, 'S')\n            [CompletionResult]::new('-x', '-x', [CompletionResultType]::ParameterName, 'S')")
    -- the help text describes a long, and also its alias
    × (map offer_row (argument_offers (record (new_arg (codes "level")) { long = Some (codes "level"); visible_aliases = codes "depth" ∷ []; help = Some (codes "How deep") }))
    ≡ record { word = codes "--level"; list = codes "--level"; kind = parameter_name; text = codes "How deep" }
    ∷ record { word = codes "--depth"; list = codes "--depth"; kind = parameter_name; text = codes "How deep" }
    ∷ [])
    -- a script with these tables reads back to them
    × (powershell_tables (script_text powershell_frame row_text (codes "app") given) ≡ Some read_back)
unfolding encode_utf8 kind_text row_begin list_begin kind_begin text_begin row_end words_text details_text row_text is_word strip_words after_words sign sign_before powershell_signs cut powershell_tokens if_quoted part kind_of step spelling after_step next tables_of read tables_begin powershell_tables table_text powershell_named powershell_frame named_text head_text script_text
switch_rows = (refl, refl, refl)

-- tables that are not closed, an unknown kind, a group without `break`, a key between other quotes,
-- and no tables at all
malformed : (powershell_tables (codes "@(switch ($command) { 'app' { break } ") ≡ None)
    × (powershell_tables (codes "@(switch ($command) { 'app' { [CompletionResult]::new('a', 'a', [CompletionResultType]::Text, 'a') break } })") ≡ None)
    × (powershell_tables (codes "@(switch ($command) { 'app' { } })") ≡ None)
    × (powershell_tables (encode_utf8_all (codes "@(switch ($command) { ’app’ { break } })")) ≡ None)
    × (powershell_tables (codes "switch ($command) { 'app' { break } })") ≡ None)
unfolding encode_utf8 is_word strip_words after_words sign sign_before powershell_signs cut powershell_tokens if_quoted part kind_of step spelling after_step next tables_of read tables_begin powershell_tables
malformed = (refl, refl, refl, refl, refl)
