-- Examples of how safe registrations are read.
use Rattle.std.proofs.Common.{◌≡◌, List, [], ◌∷◌, ◌++◌, ℕ, Option, Some, None, map, refl, codes}
use Rattle.cc_base.specs.Found.{after, with_front, cut_at, up_to, after_mark, between, without_blanks, word_by, word_after}
use Rattle.cc_quote.specs.FishQuote.{is_fish_safe, fish_sign, fish_quoted}
use Rattle.cc_quote.specs.PosixQuote.{posix_word_from, posix_word_of, is_posix_safe, is_posix_safe_word, posix_quoted}
use Rattle.cc_quote.specs.PosixSigns.{sign, byte_of}
use Rattle.cc_quote.specs.Signs.{sign as quoting_sign}
use Rattle.cc_registrations.specs.AllQuotes.{all_escaped, all_quotes_word_of, all_signs, before_byte, sign_with}
use Rattle.cc_registrations.specs.Names.{is_identifier_byte, identifier_byte, identifier_front, identifier, is_identifier, if_identifier, elvish_quoted, powershell_quoted}
use Rattle.cc_registrations.specs.PlainWords.{is_plain_from, is_posix_plain, posix_next_place, posix_plain_word, is_fish_plain, fish_next_place, fish_plain_word}
use Rattle.cc_registrations.specs.SafeText.{names_line, function_front, function_text, safe_text, safe_name, safe_names, safe_binaries, safe_function, safe_variable, safe_completer}
use Rattle.cc_registrations.specs.SafeBash as bash
use Rattle.cc_registrations.specs.SafeBash.{SafeBashReads}
use Rattle.cc_registrations.specs.SafeZsh as zsh
use Rattle.cc_registrations.specs.SafeZsh.{SafeZshReads}
use Rattle.cc_registrations.specs.SafeFish as fish
use Rattle.cc_registrations.specs.SafeFish.{SafeFishReads}
use Rattle.cc_registrations.specs.SafeElvish as elvish
use Rattle.cc_registrations.specs.SafeElvish.{SafeElvishReads}
use Rattle.cc_registrations.specs.SafePowershell as powershell
use Rattle.cc_registrations.specs.SafePowershell.{SafePowershellReads}

-- several programs, with names that need quotes
odd_bins : List (List ℕ)
odd_bins = codes "git" ∷ codes "it's $x" ∷ codes "" ∷ codes " -- \\" ∷ codes "a\nb" ∷ []

identifier_rows :
    (identifier (codes "a-b C9_$;") ≡ codes "a_b_C9___")
    × (identifier (codes "7z") ≡ codes "_7z")
    × (identifier (codes "") ≡ codes "_")
unfolding is_identifier_byte identifier_byte identifier_front
identifier_rows = (refl, refl, refl)

-- what the readers take for an identifier
if_identifier_rows :
    (if_identifier (codes "_7z") ≡ Some (codes "_7z"))
    × (if_identifier (codes "7z") ≡ None)
    × (if_identifier (codes "") ≡ None)
    × (if_identifier (codes "a b") ≡ None)
unfolding is_identifier_byte is_identifier if_identifier
if_identifier_rows = (refl, refl, refl, refl)

bash_row : SafeBashReads (codes "V=$x") (codes "my name") odd_bins (codes "/o'p $x | \\ COMPLETER \"a\\")
unfolding odd_bins after with_front cut_at up_to after_mark between without_blanks word_by word_after is_identifier_byte identifier_byte identifier_front is_identifier if_identifier posix_word_from posix_word_of sign byte_of is_posix_safe is_posix_safe_word posix_quoted bash.function_head bash.call_begins bash.call_ends bash.bash_frame bash.bash_marks names_line function_front function_text safe_text safe_name safe_names safe_binaries safe_function safe_variable safe_completer is_plain_from posix_next_place is_posix_plain posix_plain_word
bash_row = record {
  variable_read = refl;
  name_read = refl;
  completer_read = refl;
  binaries_read = refl;
}

bash_empty_row : SafeBashReads (codes "V=$x") (codes "my name") [] (codes "/o'p $x | \\ COMPLETER \"a\\")
unfolding odd_bins after with_front cut_at up_to after_mark between without_blanks word_by word_after is_identifier_byte identifier_byte identifier_front is_identifier if_identifier posix_word_from posix_word_of sign byte_of is_posix_safe is_posix_safe_word posix_quoted bash.function_head bash.call_begins bash.call_ends bash.bash_frame bash.bash_marks names_line function_front function_text safe_text safe_name safe_names safe_binaries safe_function safe_variable safe_completer is_plain_from posix_next_place is_posix_plain posix_plain_word
bash_empty_row = record {
  variable_read = refl;
  name_read = refl;
  completer_read = refl;
  binaries_read = refl;
}

zsh_row : SafeZshReads (codes "V=$x") (codes "my name") odd_bins (codes "/o'p $x | \\ COMPLETER \"a\\")
unfolding odd_bins after with_front cut_at up_to after_mark between without_blanks word_by word_after is_identifier_byte identifier_byte identifier_front is_identifier if_identifier posix_word_from posix_word_of sign byte_of is_posix_safe is_posix_safe_word posix_quoted zsh.function_head zsh.call_begins zsh.call_ends zsh.zsh_frame zsh.zsh_marks names_line function_front function_text safe_text safe_name safe_names safe_binaries safe_function safe_variable safe_completer is_plain_from posix_next_place is_posix_plain posix_plain_word
zsh_row = record {
  variable_read = refl;
  name_read = refl;
  completer_read = refl;
  binaries_read = refl;
}

zsh_empty_row : SafeZshReads (codes "V=$x") (codes "my name") [] (codes "/o'p $x | \\ COMPLETER \"a\\")
unfolding odd_bins after with_front cut_at up_to after_mark between without_blanks word_by word_after is_identifier_byte identifier_byte identifier_front is_identifier if_identifier posix_word_from posix_word_of sign byte_of is_posix_safe is_posix_safe_word posix_quoted zsh.function_head zsh.call_begins zsh.call_ends zsh.zsh_frame zsh.zsh_marks names_line function_front function_text safe_text safe_name safe_names safe_binaries safe_function safe_variable safe_completer is_plain_from posix_next_place is_posix_plain posix_plain_word
zsh_empty_row = record {
  variable_read = refl;
  name_read = refl;
  completer_read = refl;
  binaries_read = refl;
}

fish_row : SafeFishReads (codes "V=$x") (codes "my name") odd_bins (codes "/o'p $x | \\ COMPLETER \"a\\")
unfolding odd_bins after with_front cut_at up_to after_mark between without_blanks word_by word_after is_identifier_byte identifier_byte identifier_front is_identifier if_identifier is_fish_safe fish_sign fish_quoted fish.function_head fish.call_begins fish.call_ends fish.fish_frame fish.fish_marks names_line function_front function_text safe_text safe_name safe_names safe_binaries safe_function safe_variable safe_completer is_plain_from fish_next_place is_fish_plain fish_plain_word
fish_row = record {
  variable_read = refl;
  name_read = refl;
  completer_read = refl;
  binaries_read = refl;
}

fish_empty_row : SafeFishReads (codes "V=$x") (codes "my name") [] (codes "/o'p $x | \\ COMPLETER \"a\\")
unfolding odd_bins after with_front cut_at up_to after_mark between without_blanks word_by word_after is_identifier_byte identifier_byte identifier_front is_identifier if_identifier is_fish_safe fish_sign fish_quoted fish.function_head fish.call_begins fish.call_ends fish.fish_frame fish.fish_marks names_line function_front function_text safe_text safe_name safe_names safe_binaries safe_function safe_variable safe_completer is_plain_from fish_next_place is_fish_plain fish_plain_word
fish_empty_row = record {
  variable_read = refl;
  name_read = refl;
  completer_read = refl;
  binaries_read = refl;
}

elvish_row : SafeElvishReads (codes "V=$x") (codes "my name") odd_bins (codes "/o'p $x | \\ COMPLETER \"a\\")
unfolding odd_bins after with_front cut_at up_to after_mark between without_blanks word_by word_after is_identifier_byte identifier_byte identifier_front is_identifier if_identifier elvish_quoted quoting_sign elvish.names_begin elvish.function_head elvish.call_begins elvish.call_ends elvish.registration_front elvish.safe_elvish elvish.safe_elvish_names elvish.safe_elvish_binaries elvish.safe_elvish_function elvish.safe_elvish_variable elvish.safe_elvish_completer
elvish_row = record {
  variable_read = refl;
  completer_read = refl;
  binaries_read = refl;
}

elvish_empty_row : SafeElvishReads (codes "V=$x") (codes "my name") [] (codes "/o'p $x | \\ COMPLETER \"a\\")
unfolding odd_bins after with_front cut_at up_to after_mark between without_blanks word_by word_after is_identifier_byte identifier_byte identifier_front is_identifier if_identifier elvish_quoted quoting_sign elvish.names_begin elvish.function_head elvish.call_begins elvish.call_ends elvish.registration_front elvish.safe_elvish elvish.safe_elvish_names elvish.safe_elvish_binaries elvish.safe_elvish_function elvish.safe_elvish_variable elvish.safe_elvish_completer
elvish_empty_row = record {
  variable_read = refl;
  completer_read = refl;
  binaries_read = refl;
}

powershell_row : SafePowershellReads (codes "V=$x") (codes "my name") odd_bins (codes "/o'p $x | \\ COMPLETER \"a\\")
unfolding odd_bins after with_front cut_at up_to after_mark between without_blanks word_by word_after is_identifier_byte identifier_byte identifier_front is_identifier if_identifier powershell_quoted quoting_sign before_byte all_escaped sign_with all_signs powershell.names_begin powershell.script_head powershell.variable_kept powershell.call_begins powershell.call_ends powershell.script_ends powershell.registration_head powershell.call powershell.registration_tail powershell.safe_powershell powershell.safe_powershell_names powershell.safe_powershell_binaries powershell.safe_powershell_script powershell.safe_powershell_variable powershell.safe_powershell_completer
powershell_row = record {
  variable_read = refl;
  completer_read = refl;
  binaries_read = refl;
}

powershell_empty_row : SafePowershellReads (codes "V=$x") (codes "my name") [] (codes "/o'p $x | \\ COMPLETER \"a\\")
unfolding odd_bins after with_front cut_at up_to after_mark between without_blanks word_by word_after is_identifier_byte identifier_byte identifier_front is_identifier if_identifier powershell_quoted quoting_sign before_byte all_escaped sign_with all_signs powershell.names_begin powershell.script_head powershell.variable_kept powershell.call_begins powershell.call_ends powershell.script_ends powershell.registration_head powershell.call powershell.registration_tail powershell.safe_powershell powershell.safe_powershell_names powershell.safe_powershell_binaries powershell.safe_powershell_script powershell.safe_powershell_variable powershell.safe_powershell_completer
powershell_empty_row = record {
  variable_read = refl;
  completer_read = refl;
  binaries_read = refl;
}

-- ---- the quotes of PowerShell

-- U+2018, U+2019, U+201A and U+201B
left : List ℕ
left = 226 ∷ 128 ∷ 152 ∷ []

right : List ℕ
right = 226 ∷ 128 ∷ 153 ∷ []

low : List ℕ
low = 226 ∷ 128 ∷ 154 ∷ []

reversed : List ℕ
reversed = 226 ∷ 128 ∷ 155 ∷ []

-- a `'` comes before each of them, and before no other character of these bytes
escaped_rows :
    (all_escaped (codes "it's") ≡ codes "it''s")
    × (all_escaped (left ++ right ++ low ++ reversed)
    ≡ codes "'" ++ left ++ codes "'" ++ right ++ codes "'" ++ low ++ codes "'" ++ reversed)
    × (all_escaped (226 ∷ 128 ∷ 156 ∷ 226 ∷ 129 ∷ 152 ∷ []) ≡ 226 ∷ 128 ∷ 156 ∷ 226 ∷ 129 ∷ 152 ∷ [])
    × (all_escaped (226 ∷ 128 ∷ []) ≡ 226 ∷ 128 ∷ [])
unfolding left right low reversed all_escaped before_byte
escaped_rows = (refl, refl, refl, refl)

-- a word ends at each of the five; two in a row mean the second
word_rows :
    (all_quotes_word_of (codes "'a" ++ left ++ codes ";hit") ≡ Some (codes "a", codes ";hit"))
    × (all_quotes_word_of (codes "'a" ++ low ++ codes ";hit") ≡ Some (codes "a", codes ";hit"))
    × (all_quotes_word_of (reversed ++ codes "a b" ++ right ++ codes " c") ≡ Some (codes "a b", codes " c"))
    × (all_quotes_word_of (codes "'a'" ++ left ++ codes "b' c") ≡ Some (codes "a" ++ left ++ codes "b", codes " c"))
    × (all_quotes_word_of (codes "'a" ++ left ++ codes "'b' c") ≡ Some (codes "a'b", codes " c"))
    × (all_quotes_word_of (codes "'a\nb' c") ≡ Some (codes "a\nb", codes " c"))
unfolding left right low reversed quoting_sign sign_with all_signs
word_rows = (refl, refl, refl, refl, refl, refl)

powershell_quotes_row : SafePowershellReads (codes "7") (codes "") ((left ++ codes ";hit;" ++ left) ∷ (low ++ reversed) ∷ []) (codes "/opt/" ++ right ++ codes ";hit;'/a\nb")
unfolding left right low reversed after with_front cut_at up_to after_mark between without_blanks word_by word_after is_identifier_byte identifier_byte identifier_front is_identifier if_identifier powershell_quoted quoting_sign before_byte all_escaped sign_with all_signs powershell.names_begin powershell.script_head powershell.variable_kept powershell.call_begins powershell.call_ends powershell.script_ends powershell.registration_head powershell.call powershell.registration_tail powershell.safe_powershell powershell.safe_powershell_names powershell.safe_powershell_binaries powershell.safe_powershell_script powershell.safe_powershell_variable powershell.safe_powershell_completer
powershell_quotes_row = record {
  variable_read = refl;
  completer_read = refl;
  binaries_read = refl;
}

-- ---- their first lines

first_line : List ℕ → Option (List ℕ)
first_line text = up_to (codes "\n") text

some_bins : List (List ℕ)
some_bins = codes "git" ∷ codes "a'b" ∷ []

bash_line :
    first_line (bash.safe_bash (codes "V") (codes "my-name") some_bins (codes "c"))
    ≡ Some (codes "complete -o nospace -o bashdefault -F _complgen_my_name -- git 'a'\\''b'")
unfolding first_line some_bins after with_front cut_at up_to after_mark between without_blanks word_by word_after is_identifier_byte identifier_byte identifier_front is_identifier if_identifier posix_word_from posix_word_of sign byte_of is_posix_safe is_posix_safe_word posix_quoted bash.function_head bash.call_begins bash.call_ends bash.bash_frame bash.bash_marks names_line function_front function_text safe_text safe_name safe_names safe_binaries safe_function safe_variable safe_completer is_plain_from posix_next_place is_posix_plain posix_plain_word
bash_line = refl

zsh_line :
    first_line (zsh.safe_zsh (codes "V") (codes "my-name") some_bins (codes "c"))
    ≡ Some (codes "compdef _complgen_my_name git 'a'\\''b'")
unfolding first_line some_bins after with_front cut_at up_to after_mark between without_blanks word_by word_after is_identifier_byte identifier_byte identifier_front is_identifier if_identifier posix_word_from posix_word_of sign byte_of is_posix_safe is_posix_safe_word posix_quoted zsh.function_head zsh.call_begins zsh.call_ends zsh.zsh_frame zsh.zsh_marks names_line function_front function_text safe_text safe_name safe_names safe_binaries safe_function safe_variable safe_completer is_plain_from posix_next_place is_posix_plain posix_plain_word
zsh_line = refl

fish_line :
    first_line (fish.safe_fish (codes "V") (codes "my-name") some_bins (codes "c"))
    ≡ Some (codes "complete --keep-order --exclusive --arguments \"(__complgen_my_name)\" --command git --command 'a\\'b'")
unfolding first_line some_bins after with_front cut_at up_to after_mark between without_blanks word_by word_after is_identifier_byte identifier_byte identifier_front is_identifier if_identifier is_fish_safe fish_sign fish_quoted fish.function_head fish.call_begins fish.call_ends fish.fish_frame fish.fish_marks names_line function_front function_text safe_text safe_name safe_names safe_binaries safe_function safe_variable safe_completer is_plain_from fish_next_place is_fish_plain fish_plain_word
fish_line = refl

elvish_line :
    first_line (elvish.safe_elvish (codes "V") (codes "my-name") some_bins (codes "c"))
    ≡ Some (codes "for complgen-name ['git' 'a''b'] {")
unfolding first_line some_bins after with_front cut_at up_to after_mark between without_blanks word_by word_after is_identifier_byte identifier_byte identifier_front is_identifier if_identifier elvish_quoted quoting_sign elvish.names_begin elvish.function_head elvish.call_begins elvish.call_ends elvish.registration_front elvish.safe_elvish elvish.safe_elvish_names elvish.safe_elvish_binaries elvish.safe_elvish_function elvish.safe_elvish_variable elvish.safe_elvish_completer
elvish_line = refl

powershell_line :
    first_line (powershell.safe_powershell (codes "V") (codes "my-name") some_bins (codes "c"))
    ≡ Some (codes "Register-ArgumentCompleter -Native -CommandName 'git', 'a''b' -ScriptBlock {")
unfolding first_line some_bins after with_front cut_at up_to after_mark between without_blanks word_by word_after is_identifier_byte identifier_byte identifier_front is_identifier if_identifier powershell_quoted quoting_sign before_byte all_escaped sign_with all_signs powershell.names_begin powershell.script_head powershell.variable_kept powershell.call_begins powershell.call_ends powershell.script_ends powershell.registration_head powershell.call powershell.registration_tail powershell.safe_powershell powershell.safe_powershell_names powershell.safe_powershell_binaries powershell.safe_powershell_script powershell.safe_powershell_variable powershell.safe_powershell_completer
powershell_line = refl

-- ---- words with a byte that does not mean itself

refused : List (List ℕ)
refused = codes "a;b" ∷ codes "a$(b)" ∷ codes "`b`" ∷ codes "a|b" ∷ codes "a&" ∷ codes "*" ∷ codes "~a" ∷ codes "'a'$b" ∷ codes "\"$a\"" ∷ codes "a\\ b" ∷ []

posix_refused : map posix_plain_word refused ≡ map (λ _. None) refused
unfolding refused is_plain_from posix_next_place is_posix_plain posix_plain_word posix_word_from posix_word_of sign byte_of
posix_refused = refl

fish_refused : map fish_plain_word refused ≡ map (λ _. None) refused
unfolding refused is_plain_from fish_next_place is_fish_plain fish_plain_word fish_sign
fish_refused = refl
