-- A registration for PowerShell reads back.
use Rattle.std.proofs.Common.{◌≡◌, ℕ, IsTrue, List, [], ◌∷◌, ◌++◌, Some, option_map, drop, codes, refl, ◌∙◌, ap, ap₂, append_assoc, append-nil}
use Rattle.std.specs.Option.{option_and_then}
use Rattle.cc_base.proofs.Lines.{regroup_five, regroup_six}
use Rattle.cc_base.specs.Bytes.{dollar, line_feed, semicolon, space}
use Rattle.cc_base.specs.PlainName.{is_plain_name, name_byte}
use Rattle.cc_base.proofs.NameBytes.{plain_bytes, name_lacks}
use Rattle.cc_quote.proofs.SafeNames.{posix_plain, plain_safe, path_safe, safe_as_it_is}
use Rattle.cc_quote.specs.PowershellQuote.{powershell_word_of}
use Rattle.cc_quote.proofs.BeforeBlanks.{powershell_before_space, bare_first}
use Rattle.cc_base.specs.Found.{after, with_front, cut_at, up_to, after_mark, between, without_blanks, word_by, word_after}
use Rattle.cc_quote.specs.PlainPath.{is_plain_path}
use Rattle.cc_registrations.specs.PowershellRegistration.{registration_begins, script_head, environment, prev_ends, arguments, call_begins, call_ends, registration_head, call, registration_tail, powershell_registration, powershell_variable, powershell_completer, powershell_binary, PowershellRegistrationReads, PowershellReads}
use Rattle.cc_base.proofs.Finding.{past_lacking, past_free}

module _ (variable bin completer : List ℕ) (variable_plain : IsTrue (is_plain_name variable)) (bin_plain : IsTrue (is_plain_name bin)) (completer_plain : IsTrue (is_plain_path completer)) where
  -- the text from the completer on
  abbrev completed : List ℕ
  completed = completer ++ registration_tail variable

  -- the text from the first occurrence of the variable on
  abbrev called : List ℕ
  called = variable ++ (prev_ends ++ (variable ++ (arguments ++ (call_begins ++ completed))))

  in_turn : powershell_registration variable bin completer
      ≡ registration_begins ++ (bin ++ (script_head ++ (environment ++ called)))
  unfolding powershell_registration registration_head call
  in_turn =
      ap₂ (λ b c. ((((registration_begins ++ b) ++ script_head) ++ environment) ++ ((((variable ++ prev_ends) ++ variable) ++ arguments) ++ call_begins)) ++ c ++ registration_tail variable) (posix_plain bin bin_plain) (safe_as_it_is completer (path_safe completer completer_plain))
      ∙ append_assoc ((((registration_begins ++ bin) ++ script_head) ++ environment) ++ ((((variable ++ prev_ends) ++ variable) ++ arguments) ++ call_begins)) completer (registration_tail variable)
      ∙ append_assoc (((registration_begins ++ bin) ++ script_head) ++ environment) ((((variable ++ prev_ends) ++ variable) ++ arguments) ++ call_begins) completed
      ∙ ap (λ text. (((registration_begins ++ bin) ++ script_head) ++ environment) ++ text) (regroup_six variable prev_ends variable arguments call_begins completed)
      ∙ regroup_five registration_begins bin script_head environment called

  variable_found : powershell_variable (powershell_registration variable bin completer) ≡ Some variable
  unfolding powershell_variable between up_to after_mark after with_front cut_at registration_begins script_head environment prev_ends name_byte
  variable_found =
      let mark = codes "$env:" in
      let up_to_end = option_and_then (up_to (codes ";")) in
      ap (between mark (codes ";")) in_turn
      ∙ ap (λ found. up_to_end (option_map (λ c. c.1) found))
      (past_free mark registration_begins (bin ++ (script_head ++ (environment ++ called))) refl
      ∙ ap (with_front registration_begins) (past_lacking dollar (drop 1 mark) bin (script_head ++ (environment ++ called)) (name_lacks dollar bin refl (plain_bytes bin bin_plain)))
      ∙ ap (λ found. with_front registration_begins (with_front bin found)) (past_free mark script_head (environment ++ called) refl))
      ∙ ap (option_map (λ c. c.0)) (past_lacking semicolon [] variable (prev_ends ++ (variable ++ (arguments ++ (call_begins ++ completed)))) (name_lacks semicolon variable refl (plain_bytes variable variable_plain)))
      ∙ ap Some (append-nil variable)

  -- the search passes over the lines before the completer's line
  cut : option_map (λ c. c.1) (cut_at (codes "\n& ") (powershell_registration variable bin completer)) ≡ Some completed
  unfolding after with_front cut_at registration_begins script_head environment prev_ends arguments call_begins name_byte
  cut =
      let mark = codes "\n& " in
      ap (λ text. option_map (λ c. c.1) (cut_at (codes "\n& ") text)) in_turn
      ∙ ap (λ found. option_map (λ c. c.1) found)
      (past_free mark registration_begins (bin ++ (script_head ++ (environment ++ called))) refl
      ∙ ap (with_front registration_begins) (past_lacking line_feed (drop 1 mark) bin (script_head ++ (environment ++ called)) (name_lacks line_feed bin refl (plain_bytes bin bin_plain)))
      ∙ ap (λ found. with_front registration_begins (with_front bin found)) (past_free mark script_head (environment ++ called) refl)
      ∙ ap (λ found. with_front registration_begins (with_front bin (with_front script_head found))) (past_free mark environment called refl)
      ∙ ap (λ found. with_front registration_begins (with_front bin (with_front script_head (with_front environment found)))) (past_lacking line_feed (drop 1 mark) variable (prev_ends ++ (variable ++ (arguments ++ (call_begins ++ completed)))) (name_lacks line_feed variable refl (plain_bytes variable variable_plain)))
      ∙ ap (λ found. with_front registration_begins (with_front bin (with_front script_head (with_front environment (with_front variable found))))) (past_free mark prev_ends (variable ++ (arguments ++ (call_begins ++ completed))) refl)
      ∙ ap (λ found. with_front registration_begins (with_front bin (with_front script_head (with_front environment (with_front variable (with_front prev_ends found)))))) (past_lacking line_feed (drop 1 mark) variable (arguments ++ (call_begins ++ completed)) (name_lacks line_feed variable refl (plain_bytes variable variable_plain)))
      ∙ ap (λ found. with_front registration_begins (with_front bin (with_front script_head (with_front environment (with_front variable (with_front prev_ends (with_front variable found))))))) (past_free mark arguments (call_begins ++ completed) refl))

  completer_found : powershell_completer (powershell_registration variable bin completer) ≡ Some completer
  unfolding powershell_completer word_after after_mark word_by without_blanks registration_tail call_ends
  completer_found =
      let rest = drop 1 (registration_tail variable) in
      let read = powershell_before_space completer rest (path_safe completer completer_plain) in
      ap (option_and_then (word_by powershell_word_of)) cut
      ∙ ap (λ text. option_map (λ read. read.0) (powershell_word_of text)) (bare_first (completer ++ space ∷ rest) read.0)
      ∙ ap (option_map (λ read. read.0)) read.1

  binary_found : powershell_binary (powershell_registration variable bin completer) ≡ Some bin
  unfolding powershell_binary word_after after_mark word_by after with_front cut_at without_blanks registration_begins script_head
  binary_found =
      let rest = drop 1 (script_head ++ (environment ++ called)) in
      let read = powershell_before_space bin rest (plain_safe bin bin_plain) in
      ap (word_after powershell_word_of (codes "-CommandName")) in_turn
      ∙ ap (λ text. option_map (λ read. read.0) (powershell_word_of text)) (bare_first (bin ++ space ∷ rest) read.0)
      ∙ ap (option_map (λ read. read.0)) read.1

  reads : PowershellRegistrationReads variable bin completer
  reads = record {
    variable_read = variable_found;
    completer_read = completer_found;
    binary_read = binary_found;
  }

pub powershell_reads : (variable bin completer : List ℕ) → PowershellReads variable bin completer
unfolding PowershellReads
powershell_reads = reads
