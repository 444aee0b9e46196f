-- An example of how a script is read.
use Rattle.std.proofs.Common.{◌≡◌, ◌∷◌, ◌++◌, [], List, ℕ, true, false, refl, codes, Some, None}
use Rattle.cc_base.specs.Found.{after as text_after}
use Rattle.cc_base.specs.PlainName.{is_joined, is_plain_name, name_byte}
use Rattle.cc_quote.specs.PosixSigns.{sign, byte_of}
use Rattle.cc_quote.specs.PosixTokens.{cut, posix_tokens}
use Rattle.cc_quote.specs.Tokens.{is_word}
use Rattle.cc_quote.specs.ZshQuote.{marks, marks_from, unmarked}
use Rattle.cc_zsh.specs.Functions.{Entry}
use Rattle.cc_zsh.specs.Reader.{ZshOption, after_name, all_shown, arm_word, children_of, labelled_entries, parts_at_end, entry_from, entry_of, function_name, is_line, is_name_byte, is_typed_name, named_function, next, next_arm, next_function, next_state, option_of, state_after, read, read_option, shown_of, text_before, with_typed_names, with_word, word_of, zsh_parts, zsh_shown}
use Rattle.cc_zsh.specs.Reader.Bracket.{alone, after_equals}

-- conflicting names, a flag that may be used again, a help text with quotes, brackets and
-- backslashes, and children two levels deep
abbrev script : List ℕ
script =
    codes "#compdef a\n_a() {\n    _arguments \"${_arguments_options[@]}\" : \\\n"
    ++ codes "'(-q --yaml)*-v[it'\\''s \\[x\\]\\: \\\\ a]' \\\n"
    ++ codes "'()--out=[]:N:_files' \\\n"
    ++ codes "'*-w:rest -- [no option]:_default' \\\n"
    ++ codes "\":: :_a_commands\" \\\n\"*::: :->a\" \\\n&& ret=0\n"
    ++ codes "    case $state in\n    (a)\n        words=($line[1] \"${words[@]}\")\n"
    ++ codes "        case $line[1] in\n            (run)\n_arguments : \\\n'--job[]' \\\n"
    ++ codes "\":: :_a__subcmd__run_commands\" \\\n&& ret=0\n\n    case $state in\n"
    ++ codes "    (run)\n        case $line[1] in\n            (deep)\n_arguments : \\\n&& ret=0\n;;\n"
    ++ codes "        esac\n    ;;\nesac\n;;\n        esac\n    ;;\nesac\n}\n\n"
    ++ codes "_a_commands() {\n    local commands; commands=(\n'run:Runs \\[it\\]' \\\n    )\n}\n"
    ++ codes "_a__subcmd__run_commands() {\n    local commands; commands=(\n'deep:' \\\n    )\n}\n"

abbrev flag : List (List ℕ) → List ℕ → List ℕ → ZshOption
flag conflicts name help = record {
  conflicts = conflicts;
  repeated = false;
  name = name;
  bracket = alone;
  help = help;
}

abbrev described_as : List ℕ → List ℕ → Entry
described_as word help = record { word = word; help = help }

script_row : zsh_shown script ≡ Some (
    record {
      path = [];
      options = record (flag (codes "-q" ∷ codes "--yaml" ∷ []) (codes "-v") (codes "it's [x]: \\ a")) { repeated = true }
          ∷ record (flag [] (codes "--out") []) { bracket = after_equals } ∷ [];
      children = described_as (codes "run") (codes "Runs [it]") ∷ [];
    }
    ∷ record {
      path = codes "run" ∷ [];
      options = flag [] (codes "--job") [] ∷ [];
      children = described_as (codes "deep") [] ∷ [];
    }
    ∷ record { path = codes "run" ∷ codes "deep" ∷ []; options = []; children = [] }
    ∷ [])
unfolding sign byte_of cut posix_tokens is_word marks marks_from unmarked after_name all_shown arm_word children_of labelled_entries parts_at_end entry_from entry_of function_name is_line is_name_byte named_function next next_arm next_function next_state option_of state_after read read_option shown_of text_after text_before with_typed_names is_typed_name is_plain_name is_joined name_byte with_word word_of zsh_parts zsh_shown
script_row = refl

-- a name does not begin with three dashes
three_dashes : option_of (codes "---long[help]") ≡ None
unfolding after_name is_name_byte next_state option_of state_after read_option with_typed_names is_typed_name is_plain_name is_joined name_byte
three_dashes = refl
