-- A registration for Elvish reads back.
use Rattle.std.proofs.Common.{◌≡◌, ℕ, IsTrue, List, [], ◌∷◌, ◌++◌, Some, option_map, drop, codes, refl, ◌∙◌, ap, ap₂, append_assoc, append-nil}
use Rattle.std.specs.Option.{option_and_then}
use Rattle.cc_base.specs.PlainName.{is_plain_name, name_byte}
use Rattle.cc_base.proofs.NameBytes.{plain_bytes, name_lacks, name_no_blanks}
use Rattle.cc_quote.proofs.SafeNames.{posix_plain, path_safe, safe_as_it_is}
use Rattle.cc_quote.specs.ElvishQuote.{elvish_word_of}
use Rattle.cc_base.proofs.Lines.{regroup_six}
use Rattle.cc_base.specs.Bytes.{is_blank, close_bracket, equals, space}
use Rattle.cc_quote.proofs.BeforeBlanks.{elvish_before_space, bare_first}
use Rattle.cc_base.specs.Found.{after, with_front, cut_at, up_to, after_mark, between, without_blanks, after_last_from, last_run, word_by, word_after}
use Rattle.cc_quote.specs.PlainPath.{is_plain_path}
use Rattle.cc_registrations.specs.ElvishRegistration.{registration_begins, registration_front, function_head, shell_set, registration_ends, elvish_registration, variable_ends, elvish_variable, elvish_completer, elvish_binary, ElvishRegistrationReads, ElvishReads}
use Rattle.cc_base.proofs.Finding.{past_lacking, past_free, run_on}

module _ (variable bin completer : List ℕ) (variable_plain : IsTrue (is_plain_name variable)) (bin_plain : IsTrue (is_plain_name bin)) (completer_plain : IsTrue (is_plain_path completer)) where
  -- the text after the variable's mark
  abbrev call : List ℕ
  call = space ∷ (completer ++ registration_ends)

  in_turn : elvish_registration variable bin completer
      ≡ registration_begins ++ (bin ++ (function_head ++ (variable ++ (variable_ends ++ call))))
  unfolding elvish_registration registration_front shell_set variable_ends
  in_turn =
      ap₂ (λ b c. (((((registration_begins ++ b) ++ function_head) ++ variable) ++ codes "=\"elvish\" ") ++ c) ++ registration_ends) (posix_plain bin bin_plain) (safe_as_it_is completer (path_safe completer completer_plain))
      ∙ regroup_six (registration_begins ++ bin) function_head variable (codes "=\"elvish\" ") completer registration_ends
      ∙ append_assoc registration_begins bin (function_head ++ (variable ++ (variable_ends ++ call)))

  -- the text before the mark
  abbrev before : List ℕ
  before = registration_begins ++ (bin ++ (function_head ++ (variable ++ [])))

  cut : cut_at variable_ends (elvish_registration variable bin completer) ≡ Some (before, call)
  unfolding after with_front cut_at registration_begins function_head variable_ends name_byte
  cut =
      ap (cut_at variable_ends) in_turn
      ∙ past_free variable_ends registration_begins (bin ++ (function_head ++ (variable ++ (variable_ends ++ call)))) refl
      ∙ ap (with_front registration_begins) (past_lacking equals (drop 1 variable_ends) bin (function_head ++ (variable ++ (variable_ends ++ call))) (name_lacks equals bin refl (plain_bytes bin bin_plain)))
      ∙ ap (λ found. with_front registration_begins (with_front bin found)) (past_free variable_ends function_head (variable ++ (variable_ends ++ call)) refl)
      ∙ ap (λ found. with_front registration_begins (with_front bin (with_front function_head found))) (past_lacking equals (drop 1 variable_ends) variable (variable_ends ++ call) (name_lacks equals variable refl (plain_bytes variable variable_plain)))

  last : last_run before ≡ variable
  unfolding last_run after_last_from registration_begins function_head
  last =
      run_on is_blank (codes "edit:completion:arg-completer[") bin (function_head ++ (variable ++ [])) (name_no_blanks bin (plain_bytes bin bin_plain))
      ∙ run_on is_blank [] variable [] (name_no_blanks variable (plain_bytes variable variable_plain))

  variable_found : elvish_variable (elvish_registration variable bin completer) ≡ Some variable
  unfolding elvish_variable up_to
  variable_found = ap (λ found. option_map last_run (option_map (λ c. c.0) found)) cut ∙ ap Some last

  completer_found : elvish_completer (elvish_registration variable bin completer) ≡ Some completer
  unfolding elvish_completer word_after after_mark word_by without_blanks registration_ends
  completer_found =
      let rest = drop 1 registration_ends in
      let read = elvish_before_space completer rest (path_safe completer completer_plain) in
      ap (λ found. option_and_then (word_by elvish_word_of) (option_map (λ c. c.1) found)) cut
      ∙ ap (λ text. option_map (λ read. read.0) (elvish_word_of text)) (bare_first (completer ++ space ∷ rest) read.0)
      ∙ ap (option_map (λ read. read.0)) read.1

  binary_found : elvish_binary (elvish_registration variable bin completer) ≡ Some bin
  unfolding elvish_binary between up_to after_mark after with_front cut_at registration_begins function_head name_byte
  binary_found =
      ap (between (codes "arg-completer[") (codes "]")) in_turn
      ∙ ap (option_map (λ c. c.0)) (past_lacking close_bracket [] bin (function_head ++ (variable ++ (variable_ends ++ call))) (name_lacks close_bracket bin refl (plain_bytes bin bin_plain)))
      ∙ ap Some (append-nil bin)

  reads : ElvishRegistrationReads variable bin completer
  reads = record {
    variable_read = variable_found;
    completer_read = completer_found;
    binary_read = binary_found;
  }

pub elvish_reads : (variable bin completer : List ℕ) → ElvishReads variable bin completer
unfolding ElvishReads
elvish_reads = reads
